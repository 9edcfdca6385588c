-- The pass over the queue: a letter more, a state more, its start and its end.
use Rattle.std.proofs.Common.{◌≡◌, ℕ, suc, ◌+◌, ◌-◌, ◌*◌, ◌<◌, ◌≤◌, cond, ◌≢◌, List, [], ◌∷◌, ◌++◌, length, get_or, set, sym, ap, ◌∙◌, subst, ⊎_elim, arith, length-set, get_or-set_other, get_or-set_same}
use Rattle.std.proofs.lemmas.List.{get_or_append_left, get_or_push, length_push}
use Rattle.std.proofs.lemmas.Bool.{cases_eq, cases_lt, eq-eqb, ne_eqb}
use Rattle.automaton.specs.Breadth.{fallen_back, Stored, InTurn, Between, Within}
use Rattle.automaton.specs.Memory.{at, leads}
use Rattle.automaton.specs.Pass.{Pass, Undone, Automaton}
use Rattle.automaton.specs.Places.{Places}
use Rattle.automaton.specs.Trie.{Trie}
use Rattle.automaton.proofs.Counts.{nonzeros-le, nonzeros-lt, nonzeros-set, nonzeros_none}
use Rattle.automaton.proofs.Grows.{other_edge}
use Rattle.automaton.proofs.Steps.{Back, back_root, back_link, step_none, step_child}

pub stored_few : (w : Places) (next fail turns : List ℕ) (k t : ℕ) → Stored w next fail turns k t → t ≤ 1024
stored_few w next fail turns k t S = omega (arith, nonzeros-le turns, S.given, S.turns_long)

module _ (w : Places) (next fail turns queue : List ℕ) (x c t : ℕ) (R : Within w next fail turns queue x c t) (in_c : c < 16) where
  k : ℕ
  k = 16 * (at turns x - 1) + c

  here : 16 * at turns x + c ≡ 16 * (at turns x - 1) + c + 16
  here = let p = R.turned in omega arith

  next_moment : 16 * (at turns x - 1) + c + 1 ≡ 16 * (at turns x - 1) + (c + 1)
  next_moment = omega arith

  in_x : x < 1024
  in_x = R.stored.pass.inside x R.turned

  back : Back w (at fail) (at turns) x c (fallen_back next fail x c)
  back = ⊎_elim
      (λ (z : x ≡ 0). subst (λ (g : ℕ). Back w (at fail) (at turns) x c g) (sym (ap (λ b. cond b 0 (leads next (at fail x) c)) (eq-eqb x 0 z)))
      (back_root w R.stored.sound (leads next) (at fail) (at turns) _ t R.stored.pass x c in_c R.turned here z))
      (λ (n : x ≡ 0 → ⊥). subst (λ (g : ℕ). Back w (at fail) (at turns) x c g) (sym (ap (λ b. cond b 0 (leads next (at fail x) c)) (ne_eqb x 0 n)))
      (back_link w R.stored.sound (leads next) (at fail) (at turns) _ t R.stored.pass x c in_c R.turned here (omega arith)))
      (cases_eq x 0)

  -- the trie lacks the letter
  pub within_none : (e g : ℕ) → e ≡ x * 16 + c → g ≡ fallen_back next fail x c → get_or next e 0 ≡ 0 → Within w (set next e g) fail turns queue x (c + 1) t
  within_none e g is_e is_g none =
      let S = R.stored in
      let i = in_x in
      let wide = S.next_long in
      let lt : e < length next = omega arith in
      record {
        turned = R.turned;
        last = R.last;
        order = R.order;
        stored = record {
          next_long = simp length-set S.next_long;
          fail_long = S.fail_long;
          turns_long = S.turns_long;
          given = S.given;
          sound = S.sound;
          pass = subst (λ (m : ℕ). Pass w (leads (set next e g)) (at fail) (at turns) m t) next_moment
              (step_none w S.sound (leads next) (at fail) (at turns) _ t S.pass x c in_c R.turned here g (subst (λ (v : ℕ). Back w (at fail) (at turns) x c v) (sym is_g) back)
              (ap (at next) (sym is_e) ∙ none) (leads (set next e g))
              (ap (at (set next e g)) (sym is_e) ∙ get_or-set_same next e g 0 lt)
              (λ y d l n. get_or-set_other next e _ g 0 (λ q. other_edge y d x c l in_c n (q ∙ is_e))));
        };
      }

  -- a state of the trie has no turn yet, and there is a turn for it
  pub child_fresh : (e y : ℕ) → e ≡ x * 16 + c → get_or next e 0 ≡ y → 0 < y → (y < 1024) × (at turns y ≡ 0) × (t < 1024)
  child_fresh e y is_e is pos =
      let S = R.stored in
      let is' : leads next x c ≡ y = ap (at next) (sym is_e) ∙ is in
      let u : Undone (at turns) (16 * (at turns x - 1) + c) x c = (in_x, in_c, λ _. omega (arith, here)) in
      let o = (S.pass.edge x c u).own (omega arith) in
      let in_y : y < 1024 = omega (arith, (S.sound.state o.0 o.1).1, o.2) in
      let f : at turns y ≡ 0 = sym (ap (at turns) is') ∙ S.pass.fresh x c u (omega arith) in
      (in_y, f, omega (arith, nonzeros-lt turns y (omega (arith, S.turns_long)) f, S.turns_long, S.given))

  -- and it is another state than this one
  pub child_other : (e y : ℕ) → e ≡ x * 16 + c → get_or next e 0 ≡ y → 0 < y → x ≢ y
  child_other e y is_e is pos q = let a = ap (at turns) q in omega (arith, (child_fresh e y is_e is pos).1, R.turned)

  pub within_child : (e g y : ℕ) → e ≡ x * 16 + c → g ≡ fallen_back next fail x c → get_or next e 0 ≡ y → 0 < y
      → Within w next (set fail y g) (set turns y (t + 1)) (queue ++ y ∷ []) x (c + 1) (t + 1)
  within_child e g y is_e is_g is pos =
      let S = R.stored in
      let f = child_fresh e y is_e is pos in
      let in_y = f.0 in
      let long = S.turns_long in
      let long₂ = S.fail_long in
      let all = R.last in
      let same : (z : ℕ) → 0 < at turns z → at (set turns y (t + 1)) z ≡ at turns z = λ z q. get_or-set_other turns y z (t + 1) 0 (λ e. let a = ap (at turns) e in omega (arith, f.1)) in
      let x_same = same x R.turned in
      let y_turn : at (set turns y (t + 1)) y ≡ t + 1 = get_or-set_same turns y (t + 1) 0 (omega arith) in
      record {
        turned = omega (arith, R.turned);
        last = omega (arith, length_push queue y);
        order = λ i l. ⊎_elim
            (λ (m : i < length queue).
            let q = get_or_append_left queue (y ∷ []) 0 i m in
            let o = R.order i m in
            ap (at (set turns y (t + 1))) q ∙ same (get_or queue i 0) (omega arith) ∙ o ∙ ap (λ v. v + 1 + i) (sym x_same))
            (λ (m : length queue ≤ i).
            let p = length_push queue y in
            let q : length queue ≡ i = omega arith in
            ap (at (set turns y (t + 1))) (get_or_push queue y 0 i q) ∙ y_turn ∙ (let z : t + 1 ≡ at (set turns y (t + 1)) x + 1 + i = omega arith in z))
            (cases_lt i (length queue));
        stored = record {
          next_long = S.next_long;
          fail_long = simp length-set S.fail_long;
          turns_long = simp length-set S.turns_long;
          given = nonzeros-set turns y (t + 1) (omega arith) f.1 (omega arith) ∙ ap (λ n. n + 1) S.given;
          sound = S.sound;
          pass = subst (λ (m : ℕ). Pass w (leads next) (at (set fail y g)) (at (set turns y (t + 1))) m (t + 1)) (next_moment ∙ ap (λ v. 16 * (v - 1) + (c + 1)) (sym x_same))
              (step_child w S.sound (leads next) (at fail) (at turns) _ t S.pass x c in_c R.turned here g y (subst (λ (v : ℕ). Back w (at fail) (at turns) x c v) (sym is_g) back)
              (ap (at next) (sym is_e) ∙ is) pos f.2 (at (set fail y g)) (at (set turns y (t + 1)))
              (get_or-set_same fail y g 0 (omega arith)) (λ z n. get_or-set_other fail y z g 0 n)
              y_turn (λ z n. get_or-set_other turns y z (t + 1) 0 n));
        };
      }

pub within_same : (w : Places) {next next' fail fail' turns turns' queue queue' : List ℕ} (x c : ℕ) {t t' : ℕ}
    → next' ≡ next → fail' ≡ fail → turns' ≡ turns → queue' ≡ queue → t' ≡ t → Within w next fail turns queue x c t → Within w next' fail' turns' queue' x c t'
within_same w {next' = next'} {fail = fail} {fail' = fail'} {turns = turns} {turns' = turns'} {queue = queue} {queue' = queue'} x c {t = t} e₁ e₂ e₃ e₄ e₅ R =
    subst (λ (n : ℕ). Within w next' fail' turns' queue' x c n) (sym e₅)
    (subst (λ (q : List ℕ). Within w next' fail' turns' q x c t) (sym e₄)
    (subst (λ (l : List ℕ). Within w next' fail' l queue x c t) (sym e₃)
    (subst (λ (l : List ℕ). Within w next' l turns queue x c t) (sym e₂)
    (subst (λ (l : List ℕ). Within w l fail turns queue x c t) (sym e₁) R))))

pub between_same : (w : Places) (next fail turns : List ℕ) {queue queue' : List ℕ} (t : ℕ) → queue' ≡ queue → Between w next fail turns queue t → Between w next fail turns queue' t
between_same w next fail turns t e B = subst (λ (q : List ℕ). Between w next fail turns q t) (sym e) B

-- the letters of a state are settled
pub within_done : (w : Places) (next fail turns queue : List ℕ) (x t : ℕ) → Within w next fail turns queue x 16 t → Between w next fail turns queue t
within_done w next fail turns queue x t R =
    let p = R.turned in
    let all = R.last in
    let done : at turns x ≡ t - length queue = omega arith in
    record {
      last = omega arith;
      order = subst (λ (n : ℕ). InTurn turns queue (n + 1)) done R.order;
      stored = subst (λ (k : ℕ). Stored w next fail turns k t) (let e : 16 * (at turns x - 1) + 16 ≡ 16 * (t - length queue) = omega arith in e) R.stored;
    }

-- the oldest of the queue is the next
pub within_first : (w : Places) (next fail turns queue rest : List ℕ) (x t : ℕ) → queue ≡ x ∷ rest → Between w next fail turns queue t → Within w next fail turns rest x 0 t
within_first w next fail turns queue rest x t e B = go (subst (λ (q : List ℕ). Between w next fail turns q t) e B)
  where
    go : Between w next fail turns (x ∷ rest) t → Within w next fail turns rest x 0 t
    go I =
        let few = I.last in
        let turned : at turns x ≡ t - suc (length rest) + 1 + 0 = I.order 0 (omega arith) in
        record {
          turned = omega arith;
          last = omega arith;
          order = λ i l. I.order (suc i) (omega arith) ∙ (let z : t - suc (length rest) + 1 + suc i ≡ at turns x + 1 + i = omega arith in z);
          stored = subst (λ (k : ℕ). Stored w next fail turns k t) (let z : 16 * (t - suc (length rest)) ≡ 16 * (at turns x - 1) + 0 = omega arith in z) I.stored;
        }

-- the trie is whole, and the root alone waits
pub between_none : (w : Places) (next fail turns : List ℕ) (made : ℕ) → Trie w (leads next) made → length next ≡ 16384 → length fail ≡ 1024 → length turns ≡ 1024
    → ((i : ℕ) → get_or fail i 0 ≡ 0) → ((i : ℕ) → get_or turns i 0 ≡ 0) → Between w next fail (set turns 0 1) (0 ∷ []) 1
between_none w next fail turns made T l₁ l₂ l₃ f z =
    let one : at (set turns 0 1) 0 ≡ 1 = get_or-set_same turns 0 1 0 (omega arith) in
    let rest : (x : ℕ) → x ≢ 0 → at (set turns 0 1) x ≡ 0 = λ x h. get_or-set_other turns 0 x 1 0 h ∙ z x in
    let only : (x : ℕ) → 0 < at (set turns 0 1) x → x ≡ 0 = λ x h. ⊎_elim (λ e. e) (λ (m : x ≡ 0 → ⊥). absurd (let r = rest x m in let no : ⊥ = omega arith in no)) (cases_eq x 0) in
    let most : (x : ℕ) → at (set turns 0 1) x ≤ 1 = λ x. ⊎_elim (λ (e : x ≡ 0). let a = ap (at (set turns 0 1)) e ∙ one in omega arith) (λ (m : x ≡ 0 → ⊥). omega (arith, rest x m)) (cases_eq x 0) in
    record {
      last = omega arith;
      order = λ i l. let e : i ≡ 0 = omega arith in ap (λ v. at (set turns 0 1) (get_or (0 ∷ []) v 0)) e ∙ one ∙ (let q : 1 ≡ 0 + 1 + i = omega arith in q);
      stored = record {
        next_long = l₁;
        fail_long = l₂;
        turns_long = simp length-set l₃;
        given = nonzeros-set turns 0 1 (omega arith) (z 0) (omega arith) ∙ ap (λ n. n + 1) (nonzeros_none turns z);
        sound = T.sound;
        pass = record {
          links = record { root = (one, f 0); few = λ x. omega (arith, most x); back = λ x p h. absurd (let e = only x h in let no : ⊥ = omega arith in no) };
          inside = λ x h. omega (arith, only x h);
          most = most;
          once = λ x y h e. let a = only x h in let b = only y (omega arith) in omega arith;
          own = λ x p h. absurd (let e = only x h in let no : ⊥ = omega arith in no);
          edge = λ x c u. T.edge x c u.0 u.1;
          fresh = λ x c u p. rest (leads next x c) (λ e. omega arith);
          settled = λ x c u. absurd (let no : ⊥ = omega (arith, u.1, u.2) in no);
        };
      };
    }

-- no state waits: all is settled
pub all_settled : (w : Places) (next fail turns queue : List ℕ) (t : ℕ) → queue ≡ [] → Between w next fail turns queue t → Automaton w (leads next) (at fail) (at turns)
all_settled w next fail turns queue t e B =
    let S = B.stored in
    let n : length queue ≡ 0 = ap length e in
    record {
      sound = S.sound;
      links = S.pass.links;
      own = S.pass.own;
      settled = λ x c in_c h. S.pass.settled x c (in_c, h, omega (arith, S.pass.most x));
    }

pub automaton_same : (w : Places) {next next' fail fail' turns turns' : List ℕ} → next' ≡ next → fail' ≡ fail → turns' ≡ turns
    → Automaton w (leads next) (at fail) (at turns) → Automaton w (leads next') (at fail') (at turns')
automaton_same w {next' = next'} {fail = fail} {fail' = fail'} {turns = turns} e₁ e₂ e₃ A =
    subst (λ (l : List ℕ). Automaton w (leads next') (at fail') (at l)) (sym e₃)
    (subst (λ (l : List ℕ). Automaton w (leads next') (at l) (at turns)) (sym e₂)
    (subst (λ (l : List ℕ). Automaton w (leads l) (at fail) (at turns)) (sym e₁) A))
