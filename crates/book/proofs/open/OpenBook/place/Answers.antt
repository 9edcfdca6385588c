use Rattle.std.proofs.Common.{length, sym, refl, ap, ◌∙◌, arith}
use Rattle.std.proofs.lemmas.List.Edits.{length-paste}
use Rattle.book.specs.Cutting.{filled}
use Rattle.book.specs.Entering.{request}
use Rattle.book.specs.Stored.{held, open_book}
use Rattle.book.proofs.Holdings.{held_cell_count}
use Rattle.book.proofs.Judging.{admitted, taken}
use Rattle.book.proofs.Pushes.{held_after}
use Rattle.book.proofs.open.OpenBook.place.Goals as goal

pub fill-requires : goal.fill-requires
fill-requires g c = (admitted c.args.self.now (request c.args.entry.now) c.requires).1

pub push-requires : goal.push-requires
push-requires g c = (admitted c.args.self.now (request c.args.entry.now) c.requires).0

pub invariant_of-self : goal.invariant_of-self
invariant_of-self g c =
    let s = c.args.self.now in
    let cs = c.args.entry.now.cells.now in
    let room = (admitted s (request c.args.entry.now) c.requires).1 in
    let long = ap length c.fill.ensures ∙ length-paste s.cells.now s.ledger.cell_count cs (length cs) room (omega arith) in
    record { room = omega (arith, room, long, c.push.ensures.cells) }

pub returns : goal.returns
returns g c =
    let s = c.args.self.now in
    let m = s.cells.now in
    let q = request c.args.entry.now in
    let t = taken (open_book s) m q c.requires in
    record {
      book = ap (held c.push.new.self) c.fill.ensures ∙ held_after s.ledger q (admitted s q c.requires).0 c.push.new.self m s.room c.push.ensures.lines c.push.ensures.keywords ∙ sym t.0;
      memory = c.fill.ensures ∙ sym (t.1 ∙ ap (λ n. filled m n q.cells) (held_cell_count s.ledger m s.room));
      lender = refl;
    }
