use Rattle.std.proofs.Common.{◌≡◌, ◌+◌, ◌≤◌, [], ◌∷◌, ◌++◌, length, drop, None, sym, ap, ◌∙◌, arith}
use Rattle.std.proofs.lemmas.Result.{err_from_is_err_and}
use Rattle.page.specs.Flaws.{keyword_flaws, first_of}
use Rattle.page.specs.Letters.{letters_of}
use Rattle.page.specs.Row.{cells_of, lengths_up_to, gaps_up_to, cells_up_to}
use Rattle.page.proofs.Fieldwork.{flawed_gap, flawed_blank, flawed_letters, next_flaw, grown, lengths_more, gaps_more, cells_more, at_good}
use Rattle.page.proofs.drafts.Draft.read_keyword.Goals as goal

pub returns-in_err-gap : goal.returns-in_err-gap
returns-in_err-gap c =
    let p = err_from_is_err_and c.from_residual.result c.from_residual.ensures.1 in
    let d = c.args.self.now in
    let k = c.len-keyword.result in
    let e = flawed_gap d.row.bytes.now k _ c.in_err-gap.ensures in
    rw (p.1, p.2) (next_flaw d k _ c.len-keyword.ensures.value (omega arith) e)

pub returns-in_err-check_blank : goal.returns-in_err-check_blank
returns-in_err-check_blank c =
    let p = err_from_is_err_and c.from_residual-in_err-check_blank.result c.from_residual-in_err-check_blank.ensures.1 in
    let d = c.args.self.now in
    let k = c.len-keyword.result in
    let blank = c.field.ensures in
    let e = flawed_blank d.row.bytes.now k _ _ _ c.in_ok-gap.ensures.1 blank.bytes blank.column c.in_err-check_blank.ensures in
    rw (p.1, p.2) (next_flaw d k _ c.len-keyword.ensures.value (omega arith) e)

pub returns-in_err-letters : goal.returns-in_err-letters
returns-in_err-letters c =
    let p = err_from_is_err_and c.from_residual-in_err-letters.result c.from_residual-in_err-letters.ensures.1 in
    let d = c.args.self.now in
    let k = c.len-keyword.result in
    let blank = c.field.ensures in
    let field = c.field-2.ensures in
    let e = flawed_letters d.row.bytes.now k _ _ _ _ _ c.in_ok-gap.ensures.1 blank.bytes blank.column c.in_ok-check_blank.ensures field.bytes field.column c.in_err-letters.ensures in
    rw (p.1, p.2) (next_flaw d k _ c.len-keyword.ensures.value (omega arith) e)

pub invariant_of-self : goal.invariant_of-self
invariant_of-self c =
    let d = c.args.self.now in
    let row = d.row.bytes.now in
    let k = c.len-keyword.result in
    let old : k ≡ length d.lengths.items = c.len-keyword.ensures.value in
    let new : length c.push.new.self.items ≡ k + 1 = omega (arith, c.push.ensures.len) in
    let blank = c.field.ensures in
    let field = c.field-2.ensures in
    let letters : c.in_ok-letters.letters.items ≡ cells_of row k = c.in_ok-letters.ensures.0 ∙ ap letters_of field.bytes in
    let count : c.len.result ≡ length (cells_of row k) = c.len.ensures.value ∙ ap length letters in
    let put = c.try_extend_from_slice.result in
    let fits : length c.as_slice.result.now ≤ 16 = c.as_slice.ensures.fits in
    let good = c.try_extend_from_slice.ensures.variant.1 (omega arith) in
    let behind = at_good put good c.try_extend_from_slice.ensures.ok in
    let longer = at_good put good c.try_extend_from_slice.ensures.len in
    let e = flawed_letters row k _ _ _ _ None c.in_ok-gap.ensures.1 blank.bytes blank.column c.in_ok-check_blank.ensures field.bytes field.column c.in_ok-letters.ensures.1 in
    record {
      few = (omega arith, omega (arith, c.push-2.ensures.len), omega (arith, new, longer, fits));
      number_read = d.number_read;
      points_read = d.points_read;
      lag_read = d.lag_read;
      lengths_read = grown (lengths_up_to row) _ _ _ k _ c.push.ensures.items (d.lengths_read ∙ ap (lengths_up_to row) (sym old)) (lengths_more row k ∙ ap (λ n. lengths_up_to row k ++ n ∷ []) (sym count)) new;
      gaps_read = grown (gaps_up_to row) _ _ _ k _ c.push-2.ensures.items (d.gaps_read ∙ ap (gaps_up_to row) (sym old)) (gaps_more row k ∙ ap (λ n. gaps_up_to row k ++ n ∷ []) (sym c.in_ok-gap.ensures.0)) new;
      cells_read = grown (cells_up_to row) _ _ _ k _ behind (d.cells_read ∙ ap (cells_up_to row) (sym old)) (cells_more row k ∙ ap (λ cells. cells_up_to row k ++ cells) (sym (c.as_slice.ensures.value ∙ letters))) new;
      flawless = next_flaw d k None old (omega arith) e ∙ ap (λ n. first_of (drop n (keyword_flaws row))) (sym new);
    }
