-- The parting law: the whole's replies are shared out between its parts, at every step.
use Rattle.std.proofs.Common.{◌≡◌, ℕ, ◌+◌, ◌-◌, Bool, true, false, cond, ◌&&◌, ◌||◌, eqb, List, [], ◌∷◌, ◌++◌, map, ℤ, pos, ◌+ℤ◌, is_ok, Some, None, Ok, Err, Result, sym, refl, ap, ◌∙◌, subst, ⊎_elim, append_assoc, arith}
use Rattle.std.proofs.Math.Bool.{or-false}
use Rattle.std.specs.List.{list_any}
use Rattle.std.proofs.lemmas.Bool.{cases_Bool, both_ways, or_left, or_right, or_from, and_left, and_right}
use Rattle.refusals.specs.declared.Refusal.{Refusal}
use Rattle.refusals.specs.declared.Refusal.TheVariants.{NoSuchLine}
use Rattle.book.specs.Book.{Line, Book, among, has_number}
use Rattle.book.specs.Layout.{distinct}
use Rattle.history.specs.Answers.{verdict}
use Rattle.history.specs.Calls.{feed, History, count}
use Rattle.history.specs.Points.{points}
use Rattle.history.specs.Reports.{reported, numbers_reported}
use Rattle.history.specs.Standing.{is_armed}
use Rattle.history.specs.Told.{Told, told_of}
use Rattle.bench.specs.declared.states.LineState.TheVariants as state
use Rattle.bench.specs.Standings.{standing_answer}
use Rattle.bench.proofs.Histories.{among_reported}
use Rattle.bench.proofs.Numbered.{has_here, none_absent}
use Rattle.parting.specs.declared.commands.Command.{Command}
use Rattle.parting.specs.declared.commands.Command.TheVariants.{Feed, Arm, Rest, Clear, Standing}
use Rattle.parting.specs.Parted.{Parted, TickShared, FeedShared, OwnPart, Shared, AllShared}
use Rattle.parting.specs.Replies.{standing, Reply, fed, turned, reply, then, replies}
use Rattle.parting.proofs.Follows.{Follows, follows_none, feed_both, same_feed, same_arm, same_rest, no_arm, no_rest, follows_then}
use Rattle.parting.proofs.Sums.{sumℤ, any_parted, sum_parted, has_any, apart}

-- reports and points line by line
module _ {C S : Type 0} (hears : C → S → Bool) (h : History S) (i : ℕ) where
  -- the points of a line at the tick
  abbrev worth : Line C → ℤ
  worth l = elim (reported hears h l (i - l.lag)) [ true ↦ l.points | false ↦ pos 0 ]

  reported_any : (n : ℕ) (b : Book C) → among n (numbers_reported hears b h i) ≡ list_any (λ l. reported hears h l i && eqb l.number n) b
  reported_any n [] = refl
  reported_any n (l ∷ b) = among_reported hears l b h i n ∙ ap (λ t. (reported hears h l i && eqb l.number n) || t) (reported_any n b)

  points_sum : (b : Book C) → points hears b h i ≡ sumℤ worth b
  points_sum [] = refl
  points_sum (l ∷ b) = ap (λ t. worth l +ℤ t) (points_sum b)

-- for the lines of a part, a history that follows another tells the same
module _ {C S : Type 0} (hears : C → S → Bool) (part : Book C) (g h : History S) (f : Follows hears part g h) (i : ℕ) where
  same_numbers : (before after : Book C) → part ≡ before ++ after → numbers_reported hears after g i ≡ numbers_reported hears after h i
  same_numbers before [] e = refl
  same_numbers before (l ∷ after) e =
      let here = ap (has_number l.number) e ∙ has_here before l after in
      let more = same_numbers (before ++ l ∷ []) after (e ∙ sym (append_assoc before (l ∷ []) after)) in
      λ j. elim (f.reports l here i j) [ true ↦ l.number ∷ more j | false ↦ more j ]

  same_points : (before after : Book C) → part ≡ before ++ after → points hears after g i ≡ points hears after h i
  same_points before [] e = refl
  same_points before (l ∷ after) e =
      let here = ap (has_number l.number) e ∙ has_here before l after in
      let more = same_points (before ++ l ∷ []) after (e ∙ sym (append_assoc before (l ∷ []) after)) in
      λ j. elim (f.reports l here (i - l.lag) j) [ true ↦ l.points | false ↦ pos 0 ] +ℤ more j

-- a feed's reply, by the verdict
abbrev picked : Result (Unit {0}) Refusal → Told → Reply
picked v t = fed (elim v [ Ok u ↦ Ok t | Err e ↦ Err e ])

feeds : (v : Result (Unit {0}) Refusal) (t u w : Told) → TickShared t u w → FeedShared (picked v t) (picked v u) (picked v w)
feeds (Ok x) t u w k = record {
  accepted = λ t' e. let z : t ≡ t' = cc in (u, w, refl, refl, subst (λ x. TickShared x u w) z k);
  refused = λ e q. let z : ◌≡◌ {A = ℕ} 0 1 = cc in absurd (let y : ⊥ = omega arith in y);
}
feeds (Err x) t u w k = record {
  accepted = λ t' e. let z : ◌≡◌ {A = ℕ} 0 1 = cc in absurd (let y : ⊥ = omega arith in y);
  refused = λ e q. (q, q);
}

refuse_alike : (v : Result (Unit {0}) Refusal) (t u w : Told) → is_ok (picked v t) ≡ (is_ok (picked v u) || is_ok (picked v w))
refuse_alike (Ok x) t u w = refl
refuse_alike (Err x) t u w = refl

module _ {C S : Type 0} (hears : C → S → Bool) (whole one two : Book C) (parted : Parted whole one two) (numbered : distinct (map (λ l. l.number) whole) ≡ true) where
  has_whole : (n : ℕ) → has_number n whole ≡ (has_number n one || has_number n two)
  has_whole n = has_any n whole ∙ any_parted (λ l. eqb l.number n) one two whole parted ∙ (λ i. sym (has_any n one) i || sym (has_any n two) i)

  in_one : (n : ℕ) → has_number n one ≡ true → has_number n whole ≡ true
  in_one n y = has_whole n ∙ or_left _ _ y

  in_two : (n : ℕ) → has_number n two ≡ true → has_number n whole ≡ true
  in_two n y = has_whole n ∙ or_right _ _ y

  not_two : (n : ℕ) → has_number n one ≡ true → has_number n two ≡ false
  not_two n y = apart n whole one two parted numbered y

  not_one : (n : ℕ) → has_number n two ≡ true → has_number n one ≡ false
  not_one n y = ⊎_elim (λ x. absurd (both_ways (has_number n two) (not_two n x) y)) (λ x. x) (cases_Bool (has_number n one))

  -- a command for one line
  own_part : (n : ℕ) (without w a b : Reply) → (has_number n one ≡ true → w ≡ a) → (has_number n one ≡ false → a ≡ without) → (has_number n two ≡ true → w ≡ b) → (has_number n two ≡ false → b ≡ without) → (has_number n whole ≡ false → w ≡ without)
      → OwnPart one two n without w a b
  own_part n without w a b wa aa wb bb ww = record {
    in_first = λ y. (wa y, bb (not_two n y));
    in_second = λ y. (wb y, aa (not_one n y));
    in_neither = λ x y. (ww (has_whole n ∙ or_from _ _ x y), aa x, bb y);
  }

  -- the whole refuses it exactly when both parts do
  together : (n : ℕ) (w a b : Reply) → OwnPart one two n (Err NoSuchLine) w a b → is_ok w ≡ (is_ok a || is_ok b)
  together n w a b o =
      ⊎_elim
      (λ y. let p = o.in_first y in ap is_ok p.0 ∙ sym (or-false (is_ok a)) ∙ ap (λ x. is_ok a || is_ok x) (sym p.1))
      (λ x.
      ⊎_elim
      (λ y. let p = o.in_second y in ap is_ok p.0 ∙ ap (λ x. is_ok x || is_ok b) (sym p.1))
      (λ y. let p = o.in_neither x y in ap is_ok p.0 ∙ (λ i. sym (ap is_ok p.1) i || sym (ap is_ok p.2) i))
      (cases_Bool (has_number n two)))
      (cases_Bool (has_number n one))

  module _ (takes takes₁ takes₂ : S → Bool) (alike₁ : (s : S) → takes s ≡ takes₁ s) (alike₂ : (s : S) → takes s ≡ takes₂ s) where
    module _ (g h₁ h₂ : History S) (f₁ : Follows hears one g h₁) (f₂ : Follows hears two g h₂) where
      tick_shared : (s : S) → TickShared (told_of hears takes whole (feed s ∷ g) (count g + 1)) (told_of hears takes₁ one (feed s ∷ h₁) (count h₁ + 1)) (told_of hears takes₂ two (feed s ∷ h₂) (count h₂ + 1))
      tick_shared s =
          let G = feed s ∷ g in
          let i = count g + 1 in
          let k₁ = feed_both hears one g h₁ f₁ s in
          let k₂ = feed_both hears two g h₂ f₂ s in
          let i₁ = ap (λ x. x + 1) f₁.counted in
          let i₂ = ap (λ x. x + 1) f₂.counted in
          let first : (n : ℕ) → among n (numbers_reported hears one G i) ≡ among n (numbers_reported hears one (feed s ∷ h₁) (count h₁ + 1)) =
          λ n. ap (among n) (same_numbers hears one G (feed s ∷ h₁) k₁ i [] one refl) ∙ ap (λ x. among n (numbers_reported hears one (feed s ∷ h₁) x)) i₁ in
          let second : (n : ℕ) → among n (numbers_reported hears two G i) ≡ among n (numbers_reported hears two (feed s ∷ h₂) (count h₂ + 1)) =
          λ n. ap (among n) (same_numbers hears two G (feed s ∷ h₂) k₂ i [] two refl) ∙ ap (λ x. among n (numbers_reported hears two (feed s ∷ h₂) x)) i₂ in
          record {
            tick_of_first = sym i₁;
            tick_of_second = sym i₂;
            reports = λ n.
                reported_any hears G i n whole
                ∙ any_parted (λ l. reported hears G l i && eqb l.number n) one two whole parted
                ∙ (λ j. (sym (reported_any hears G i n one) ∙ first n) j || (sym (reported_any hears G i n two) ∙ second n) j);
            none_twice = λ n.
                ⊎_elim
                (λ y. and_right _ _ (none_absent hears (feed s ∷ h₂) (count h₂ + 1) two n (not_two n y)))
                (λ y. and_left _ _ (none_absent hears (feed s ∷ h₁) (count h₁ + 1) one n y))
                (cases_Bool (has_number n one));
            points =
                points_sum hears G i whole
                ∙ sum_parted (worth hears G i) one two whole parted
                ∙ (λ j.
                (sym (points_sum hears G i one) ∙ same_points hears one G (feed s ∷ h₁) k₁ i [] one refl ∙ ap (points hears one (feed s ∷ h₁)) i₁) j
                +ℤ (sym (points_sum hears G i two) ∙ same_points hears two G (feed s ∷ h₂) k₂ i [] two refl ∙ ap (points hears two (feed s ∷ h₂)) i₂) j);
          }

      -- one step
      step : (c : Command S) → Shared one two c (reply hears takes whole g c) (reply hears takes₁ one h₁ c) (reply hears takes₂ two h₂ c)
      step (Feed s) =
          let v = verdict takes whole g (feed s) in
          let t = told_of hears takes whole (feed s ∷ g) (count g + 1) in
          let u = told_of hears takes₁ one (feed s ∷ h₁) (count h₁ + 1) in
          let w = told_of hears takes₂ two (feed s ∷ h₂) (count h₂ + 1) in
          let e₁ = same_feed hears one whole in_one takes takes₁ alike₁ g h₁ f₁ s in
          let e₂ = same_feed hears two whole in_two takes takes₂ alike₂ g h₂ f₂ s in
          let k : Shared one two (Feed s) (picked v t) (picked v u) (picked v w) = record { by_command = feeds v t u w (tick_shared s); refuses = refuse_alike v t u w } in
          subst (λ x. Shared one two (Feed s) (picked v t) (picked x u) (reply hears takes₂ two h₂ (Feed s))) e₁ (subst (λ x. Shared one two (Feed s) (picked v t) (picked v u) (picked x w)) e₂ k)
      step (Arm n) =
          let o = own_part n (Err NoSuchLine) (reply hears takes whole g (Arm n)) (reply hears takes₁ one h₁ (Arm n)) (reply hears takes₂ two h₂ (Arm n))
          (λ y. ap turned (same_arm hears one whole in_one takes takes₁ alike₁ g h₁ f₁ n y)) (λ y. ap turned (no_arm takes₁ one h₁ n y))
          (λ y. ap turned (same_arm hears two whole in_two takes takes₂ alike₂ g h₂ f₂ n y)) (λ y. ap turned (no_arm takes₂ two h₂ n y))
          (λ y. ap turned (no_arm takes whole g n y)) in
          record { by_command = o; refuses = together n _ _ _ o }
      step (Rest n) =
          let o = own_part n (Err NoSuchLine) (reply hears takes whole g (Rest n)) (reply hears takes₁ one h₁ (Rest n)) (reply hears takes₂ two h₂ (Rest n))
          (λ y. ap turned (same_rest hears one whole in_one takes takes₁ alike₁ g h₁ f₁ n y)) (λ y. ap turned (no_rest takes₁ one h₁ n y))
          (λ y. ap turned (same_rest hears two whole in_two takes takes₂ alike₂ g h₂ f₂ n y)) (λ y. ap turned (no_rest takes₂ two h₂ n y))
          (λ y. ap turned (no_rest takes whole g n y)) in
          record { by_command = o; refuses = together n _ _ _ o }
      step Clear = record { by_command = (refl, refl, refl); refuses = refl }
      step (Standing n) = record {
        by_command = own_part n (Ok (standing None)) (reply hears takes whole g (Standing n)) (reply hears takes₁ one h₁ (Standing n)) (reply hears takes₂ two h₂ (Standing n))
            (λ y i. Ok (standing (cond ((in_one n y ∙ sym y) i) (Some (cond (f₁.armed n y i) state.Armed state.Resting)) None))) (λ y. lacks one h₁ n y)
            (λ y i. Ok (standing (cond ((in_two n y ∙ sym y) i) (Some (cond (f₂.armed n y i) state.Armed state.Resting)) None))) (λ y. lacks two h₂ n y)
            (λ y. lacks whole g n y);
        refuses = refl;
      }
        where
          lacks : (b : Book C) (h : History S) (n : ℕ) → has_number n b ≡ false → ◌≡◌ {A = Reply} (Ok (standing (standing_answer b h n))) (Ok (standing None))
          lacks b h n y = ap (λ t. Ok (standing (cond t (Some (cond (is_armed h n) state.Armed state.Resting)) None))) y

    -- every step
    steps : (cs : List (Command S)) (g h₁ h₂ : History S) → Follows hears one g h₁ → Follows hears two g h₂ → AllShared one two cs (replies hears takes whole g cs) (replies hears takes₁ one h₁ cs) (replies hears takes₂ two h₂ cs)
    steps [] g h₁ h₂ f₁ f₂ = tt
    steps (c ∷ cs) g h₁ h₂ f₁ f₂ = (
      step g h₁ h₂ f₁ f₂ c,
      steps cs (then hears takes whole g c) (then hears takes₁ one h₁ c) (then hears takes₂ two h₂ c) (follows_then hears one whole in_one takes takes₁ alike₁ g h₁ f₁ c) (follows_then hears two whole in_two takes takes₂ alike₂ g h₂ f₂ c),
    )

    -- from the making on
    pub parting : (cs : List (Command S)) → AllShared one two cs (replies hears takes whole [] cs) (replies hears takes₁ one [] cs) (replies hears takes₂ two [] cs)
    parting cs = steps cs [] [] [] (follows_none hears one) (follows_none hears two)
