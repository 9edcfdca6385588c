-- The history of a part follows that of the whole, for the part's own lines.
use Rattle.std.proofs.Common.{◌≡◌, ℕ, ◌+◌, ◌-◌, Bool, true, false, cond, not, ◌&&◌, eqb, ltb, [], ◌∷◌, reverse, is_ok, Ok, Err, sym, refl, ap, ◌∙◌, subst, ⊎_elim}
use Rattle.std.proofs.lemmas.Bool.{cases_Bool, ne_eqb, both_ways}
use Rattle.refusals.specs.declared.Refusal.TheVariants.{NoSymbol, TicksSpent, NoSuchLine, AlreadyArmed, AlreadyResting}
use Rattle.book.specs.Book.{Line, Book, has_number}
use Rattle.history.specs.Answers.{verdict, after}
use Rattle.history.specs.Calls.{Call, feed, arm, rest, clear, History, samples, count}
use Rattle.history.specs.Reports.{reported}
use Rattle.history.specs.Standing.{is_armed, mark}
use Rattle.occurrences.specs.Occurring.{span, occurs}
use Rattle.parting.specs.declared.commands.Command.{Command}
use Rattle.parting.specs.declared.commands.Command.TheVariants.{Feed, Arm, Rest, Clear, Standing}
use Rattle.parting.specs.Replies.{then}

-- a bench without the line refuses
module _ {C S : Type 0} (takes : S → Bool) (b : Book C) (h : History S) (n : ℕ) (lacks : has_number n b ≡ false) where
  pub no_arm : verdict takes b h (arm n) ≡ Err NoSuchLine
  no_arm = ap (λ t. cond t (cond (not (is_armed h n)) (Ok tt) (Err AlreadyArmed)) (Err NoSuchLine)) lacks

  pub no_rest : verdict takes b h (rest n) ≡ Err NoSuchLine
  no_rest = ap (λ t. cond t (cond (is_armed h n) (Ok tt) (Err AlreadyResting)) (Err NoSuchLine)) lacks

module _ {C S : Type 0} (hears : C → S → Bool) (part : Book C) where
  -- for the lines of a part, two histories say the same
  pub record Follows (g h : History S) : Type 0 where
    pub heard : samples g ≡ samples h
    pub counted : count g ≡ count h
    pub armed : (n : ℕ) → has_number n part ≡ true → is_armed g n ≡ is_armed h n
    pub marked : (n : ℕ) → has_number n part ≡ true → mark g n ≡ mark h n
    pub reports : (l : Line C) → has_number l.number part ≡ true → (i : ℕ) → reported hears g l i ≡ reported hears h l i

  pub follows_none : Follows [] []
  follows_none = record { heard = refl; counted = refl; armed = λ n y. refl; marked = λ n y. refl; reports = λ l y i. refl }

  module _ (g h : History S) (f : Follows g h) where
    -- a feed of both
    pub feed_both : (s : S) → Follows (feed s ∷ g) (feed s ∷ h)
    feed_both s = record {
      heard = ap (λ x. s ∷ x) f.heard;
      counted = ap (λ x. x + 1) f.counted;
      armed = f.armed;
      marked = f.marked;
      reports = λ l y i j.
          elim (eqb i (f.counted j + 1)) [
            | true ↦ f.armed l.number y j && (occurs hears l (reverse (s ∷ f.heard j)) (f.counted j + 1) && ltb (f.marked l.number y j) (f.counted j + 1 - span l + 1))
            | false ↦ f.reports l y i j
          ];
    }

    arm_both : (n : ℕ) → Follows (arm n ∷ g) (arm n ∷ h)
    arm_both n = record {
      heard = f.heard;
      counted = f.counted;
      armed = λ m y j. cond (eqb n m) true (f.armed m y j);
      marked = λ m y j. cond (eqb n m) (f.counted j) (f.marked m y j);
      reports = f.reports;
    }

    rest_both : (n : ℕ) → Follows (rest n ∷ g) (rest n ∷ h)
    rest_both n = record {
      heard = f.heard;
      counted = f.counted;
      armed = λ m y j. cond (eqb n m) false (f.armed m y j);
      marked = f.marked;
      reports = f.reports;
    }

    clear_both : Follows (clear ∷ g) (clear ∷ h)
    clear_both = record { heard = refl; counted = refl; armed = λ n y. refl; marked = λ n y. refl; reports = λ l y i. refl }

    -- the whole alone is called for a line that the part lacks
    other : (n m : ℕ) → has_number n part ≡ false → has_number m part ≡ true → eqb n m ≡ false
    other n m lacks has = ne_eqb n m (λ e. both_ways (has_number m part) (subst (λ x. has_number x part ≡ false) e lacks) has)

    arm_whole : (n : ℕ) → has_number n part ≡ false → Follows (arm n ∷ g) h
    arm_whole n lacks = record {
      heard = f.heard;
      counted = f.counted;
      armed = λ m y. ap (λ t. cond t true (is_armed g m)) (other n m lacks y) ∙ f.armed m y;
      marked = λ m y. ap (λ t. cond t (count g) (mark g m)) (other n m lacks y) ∙ f.marked m y;
      reports = f.reports;
    }

    rest_whole : (n : ℕ) → has_number n part ≡ false → Follows (rest n ∷ g) h
    rest_whole n lacks = record {
      heard = f.heard;
      counted = f.counted;
      armed = λ m y. ap (λ t. cond t false (is_armed g m)) (other n m lacks y) ∙ f.armed m y;
      marked = f.marked;
      reports = f.reports;
    }

  module _ (whole : Book C) (inside : (n : ℕ) → has_number n part ≡ true → has_number n whole ≡ true) (takes takes' : S → Bool) (alike : (s : S) → takes s ≡ takes' s) (g h : History S) (f : Follows g h) where
    -- a feed is judged alike
    pub same_feed : (s : S) → verdict takes whole g (feed s) ≡ verdict takes' part h (feed s)
    same_feed s = λ i. cond (alike s i) (cond (ltb (f.counted i) 4000000000) (Ok tt) (Err TicksSpent)) (Err NoSymbol)

    -- and so is arm or rest of a line of the part
    pub same_arm : (n : ℕ) → has_number n part ≡ true → verdict takes whole g (arm n) ≡ verdict takes' part h (arm n)
    same_arm n y = λ i. cond ((inside n y ∙ sym y) i) (cond (not (f.armed n y i)) (Ok tt) (Err AlreadyArmed)) (Err NoSuchLine)

    pub same_rest : (n : ℕ) → has_number n part ≡ true → verdict takes whole g (rest n) ≡ verdict takes' part h (rest n)
    same_rest n y = λ i. cond ((inside n y ∙ sym y) i) (cond (f.armed n y i) (Ok tt) (Err AlreadyResting)) (Err NoSuchLine)

    both : (c : Call S) (x y : Bool) → x ≡ y → Follows (c ∷ g) (c ∷ h) → Follows (elim x [ true ↦ c ∷ g | false ↦ g ]) (elim y [ true ↦ c ∷ h | false ↦ h ])
    both c true true e k = k
    both c false false e k = f
    both c true false e k = absurd (both_ways true e refl)
    both c false true e k = absurd (both_ways false refl e)

    alone : (c : Call S) (x : Bool) → Follows (c ∷ g) h → Follows (elim x [ true ↦ c ∷ g | false ↦ g ]) h
    alone c true k = k
    alone c false k = f

    stay : (c : Call S) → verdict takes' part h c ≡ Err NoSuchLine → h ≡ after takes' part h c
    stay c e = ap (λ v. elim (is_ok v) [ true ↦ c ∷ h | false ↦ h ]) (sym e)

    -- after each command the history of the part follows that of the whole
    pub follows_then : (c : Command S) → Follows (then hears takes whole g c) (then hears takes' part h c)
    follows_then (Feed s) = both (feed s) (is_ok (verdict takes whole g (feed s))) (is_ok (verdict takes' part h (feed s))) (ap is_ok (same_feed s)) (feed_both g h f s)
    follows_then (Arm n) =
        ⊎_elim
        (λ y. both (arm n) (is_ok (verdict takes whole g (arm n))) (is_ok (verdict takes' part h (arm n))) (ap is_ok (same_arm n y)) (arm_both g h f n))
        (λ y. subst (Follows (after takes whole g (arm n))) (stay (arm n) (no_arm takes' part h n y)) (alone (arm n) (is_ok (verdict takes whole g (arm n))) (arm_whole g h f n y)))
        (cases_Bool (has_number n part))
    follows_then (Rest n) =
        ⊎_elim
        (λ y. both (rest n) (is_ok (verdict takes whole g (rest n))) (is_ok (verdict takes' part h (rest n))) (ap is_ok (same_rest n y)) (rest_both g h f n))
        (λ y. subst (Follows (after takes whole g (rest n))) (stay (rest n) (no_rest takes' part h n y)) (alone (rest n) (is_ok (verdict takes whole g (rest n))) (rest_whole g h f n y)))
        (cases_Bool (has_number n part))
    follows_then Clear = clear_both g h f
    follows_then (Standing n) = f
