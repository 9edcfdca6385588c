-- Arming and resting, by the standings and by the history.
use Rattle.std.proofs.Common.{◌≡◌, ℕ, ◌-◌, Bool, true, false, cond, not, eqb, ◌∷◌, get_or, set, Some, None, Option, is_ok, Ok, Err, sym, refl, ap, ◌∙◌, ⊎_elim}
use Rattle.std.proofs.lemmas.Bool.{cases_eq, eq-eqb, ne_eqb, both_ways}
use Rattle.refusals.specs.declared.Refusal.TheVariants.{NoSuchLine, AlreadyArmed, AlreadyResting}
use Rattle.book.specs.Book.{Book, has_number}
use Rattle.book.specs.Rules.{within}
use Rattle.history.specs.Answers.{verdict, after}
use Rattle.history.specs.Calls.{Call, arm, rest, History, count}
use Rattle.history.specs.Standing.{is_armed, mark}
use Rattle.standings.specs.declared.tables.Standings.{Standings}
use Rattle.standings.specs.declared.turns.Standing.{Standing}
use Rattle.standings.specs.declared.turns.Standing.TheVariants.{Armed, Resting}
use Rattle.standings.specs.declared.turns.Turn.{Turn}
use Rattle.standings.specs.declared.turns.Turn.TheVariants.{Arm, Rest}
use Rattle.standings.specs.Turning.{answer, turned, placed, standing_at, turned_at}
use Rattle.standings.proofs.Placed.{placed_set}
use Rattle.bench.specs.Keeping.{turn_of}
use Rattle.bench.specs.Standings.{standing_in}

-- a turn touches the standing of its own number alone
pub placed_turned : (st : Standings) (n m : ℕ) (t : Turn) (c : ℕ) → placed (turned_at st n t c) m ≡ cond (eqb n m) (turned (standing_at st n) t c) (standing_at st m)
placed_turned st n m t c = go (within 1 128 n) refl
  where
    go : (w : Bool) → within 1 128 n ≡ w
        → placed (cond w (set st.at (n - 1) (turned (get_or st.at (n - 1) None) t c)) st.at) m ≡ cond (eqb n m) (turned (cond w (get_or st.at (n - 1) None) None) t c) (standing_at st m)
    go true inside = placed_set st.at n m (turned (get_or st.at (n - 1) None) t c) st.whole inside
    go false outside =
        ⊎_elim
        (λ same. ap (placed st.at) (sym same) ∙ ap (λ x. cond x (get_or st.at (n - 1) None) None) outside ∙ sym (ap (λ x. cond x None (standing_at st m)) (eq-eqb n m same)))
        (λ other. sym (ap (λ x. cond x None (standing_at st m)) (ne_eqb n m other)))
        (cases_eq n m)

-- a refused turn leaves the standing
unturned : (s : Option Standing) (t : Turn) (c : ℕ) → is_ok (answer s t) ≡ false → turned s t c ≡ s
unturned None t c e = refl
unturned (Some (Armed m)) Arm c e = refl
unturned (Some (Armed m)) Rest c e = absurd (both_ways true e refl)
unturned (Some Resting) Arm c e = absurd (both_ways true e refl)
unturned (Some Resting) Rest c e = refl

module _ {C S : Type 0} (takes : S → Bool) (b : Book C) (h : History S) where
  -- the answer by the standing is the one by the history
  pub answers : (n : ℕ) (t : Turn) → answer (standing_in b h n) t ≡ verdict takes b h (turn_of t n)
  answers n Arm = go (has_number n b) (is_armed h n)
    where
      go : (x y : Bool) → answer (cond x (Some (cond y (Armed (mark h n)) Resting)) None) Arm ≡ cond x (cond (not y) (Ok tt) (Err AlreadyArmed)) (Err NoSuchLine)
      go true true = refl
      go true false = refl
      go false y = refl
  answers n Rest = go (has_number n b) (is_armed h n)
    where
      go : (x y : Bool) → answer (cond x (Some (cond y (Armed (mark h n)) Resting)) None) Rest ≡ cond x (cond y (Ok tt) (Err AlreadyResting)) (Err NoSuchLine)
      go true true = refl
      go true false = refl
      go false y = refl

  -- an accepted call is added to the history
  pub accepted : (c : Call S) → is_ok (verdict takes b h c) ≡ true → after takes b h c ≡ c ∷ h
  accepted c e = ap (λ x. elim x [ true ↦ c ∷ h | false ↦ h ]) e

  -- and a refused one is not
  stays : (n : ℕ) (t : Turn) → is_ok (verdict takes b h (turn_of t n)) ≡ false → turned (standing_in b h n) t (count h) ≡ standing_in b (after takes b h (turn_of t n)) n
  stays n t e = unturned (standing_in b h n) t (count h) (ap is_ok (answers n t) ∙ e) ∙ ap (λ x. standing_in b (elim x [ true ↦ turn_of t n ∷ h | false ↦ h ]) n) (sym e)

  -- the standing of a number after its own turn
  own : (n : ℕ) (t : Turn) → turned (standing_in b h n) t (count h) ≡ standing_in b (after takes b h (turn_of t n)) n
  own n Arm = go (has_number n b) (is_armed h n) (eqb n n) refl refl refl (eq-eqb n n refl)
    where
      go : (x y z : Bool) → has_number n b ≡ x → is_armed h n ≡ y → eqb n n ≡ z → z ≡ true → turned (standing_in b h n) Arm (count h) ≡ standing_in b (after takes b h (arm n)) n
      go x y false ex ey ez e = absurd (both_ways false refl e)
      go true true true ex ey ez e = stays n Arm (λ i. is_ok (cond (ex i) (cond (not (ey i)) (Ok tt) (Err AlreadyArmed)) (Err NoSuchLine)))
      go true false true ex ey ez e =
          (λ i. turned (cond (ex i) (Some (cond (ey i) (Armed (mark h n)) Resting)) None) Arm (count h))
          ∙ sym (
          ap (λ g. standing_in b g n) (accepted (arm n) (λ i. is_ok (cond (ex i) (cond (not (ey i)) (Ok tt) (Err AlreadyArmed)) (Err NoSuchLine))))
          ∙ (λ i. cond (ex i) (Some (cond (cond (ez i) true (is_armed h n)) (Armed (cond (ez i) (count h) (mark h n))) Resting)) None)
          )
      go false y true ex ey ez e = stays n Arm (λ i. is_ok (cond (ex i) (cond (not (ey i)) (Ok tt) (Err AlreadyArmed)) (Err NoSuchLine)))
  own n Rest = go (has_number n b) (is_armed h n) (eqb n n) refl refl refl (eq-eqb n n refl)
    where
      go : (x y z : Bool) → has_number n b ≡ x → is_armed h n ≡ y → eqb n n ≡ z → z ≡ true → turned (standing_in b h n) Rest (count h) ≡ standing_in b (after takes b h (rest n)) n
      go x y false ex ey ez e = absurd (both_ways false refl e)
      go true true true ex ey ez e =
          (λ i. turned (cond (ex i) (Some (cond (ey i) (Armed (mark h n)) Resting)) None) Rest (count h))
          ∙ sym (
          ap (λ g. standing_in b g n) (accepted (rest n) (λ i. is_ok (cond (ex i) (cond (ey i) (Ok tt) (Err AlreadyResting)) (Err NoSuchLine))))
          ∙ (λ i. cond (ex i) (Some (cond (cond (ez i) false (is_armed h n)) (Armed (mark h n)) Resting)) None)
          )
      go true false true ex ey ez e = stays n Rest (λ i. is_ok (cond (ex i) (cond (ey i) (Ok tt) (Err AlreadyResting)) (Err NoSuchLine)))
      go false y true ex ey ez e = stays n Rest (λ i. is_ok (cond (ex i) (cond (ey i) (Ok tt) (Err AlreadyResting)) (Err NoSuchLine)))

  -- and after a turn of another
  others : (n m : ℕ) (t : Turn) → eqb n m ≡ false → standing_in b h m ≡ standing_in b (after takes b h (turn_of t n)) m
  others n m Arm e = go (is_ok (verdict takes b h (arm n)))
    where
      go : (x : Bool) → standing_in b h m ≡ standing_in b (elim x [ true ↦ arm n ∷ h | false ↦ h ]) m
      go true = sym (λ i. cond (has_number m b) (Some (cond (cond (e i) true (is_armed h m)) (Armed (cond (e i) (count h) (mark h m))) Resting)) None)
      go false = refl
  others n m Rest e = go (is_ok (verdict takes b h (rest n)))
    where
      go : (x : Bool) → standing_in b h m ≡ standing_in b (elim x [ true ↦ rest n ∷ h | false ↦ h ]) m
      go true = sym (λ i. cond (has_number m b) (Some (cond (cond (e i) false (is_armed h m)) (Armed (mark h m)) Resting)) None)
      go false = refl

  -- each standing after a turn
  pub stands_after : (n m : ℕ) (t : Turn) → cond (eqb n m) (turned (standing_in b h n) t (count h)) (standing_in b h m) ≡ standing_in b (after takes b h (turn_of t n)) m
  stands_after n m t =
      ⊎_elim
      (λ same. ap (λ x. cond x (turned (standing_in b h n) t (count h)) (standing_in b h m)) (eq-eqb n m same) ∙ own n t ∙ ap (standing_in b (after takes b h (turn_of t n))) same)
      (λ other. ap (λ x. cond x (turned (standing_in b h n) t (count h)) (standing_in b h m)) (ne_eqb n m other) ∙ others n m t (ne_eqb n m other))
      (cases_eq n m)
