-- Tests that every element of a list passes.
use Rattle.std.proofs.Common.{◌≡◌, ℕ, ◌<◌, Bool, true, List, ◌++◌, map, length, get_or, take, drop, ◌∙◌}
use Rattle.std.specs.List.{list_all}
use Rattle.std.proofs.lemmas.Bool.{and_from}
use Rattle.std.proofs.lemmas.List.Elements.{All-take, All-drop}
use Rattle.std.proofs.lemmas.List.Folds.{list_all-append, list_all-map}
use Rattle.std.proofs.lemmas.List.Sums.{AllPass-from_list_all, list_all-from_AllPass}

module _ {X : Type 0} (p : X → Bool) where
  pub pass_append : (xs ys : List X) → list_all p xs ≡ true → list_all p ys ≡ true → list_all p (xs ++ ys) ≡ true
  pass_append xs ys h k = list_all-append p xs ys ∙ and_from _ _ h k

  pub pass_at : (xs : List X) (i : ℕ) (d : X) → i < length xs → list_all p xs ≡ true → p (get_or xs i d) ≡ true
  pass_at xs i d h k = AllPass-from_list_all p xs k i d h

  pub pass_take : (n : ℕ) (xs : List X) → list_all p xs ≡ true → list_all p (take n xs) ≡ true
  pass_take n xs h = list_all-from_AllPass p (take n xs) (All-take (λ x. p x ≡ true) n xs (AllPass-from_list_all p xs h))

  pub pass_drop : (n : ℕ) (xs : List X) → list_all p xs ≡ true → list_all p (drop n xs) ≡ true
  pass_drop n xs h = list_all-from_AllPass p (drop n xs) (All-drop (λ x. p x ≡ true) n xs (AllPass-from_list_all p xs h))

  pub pass_map : {Y : Type 0} (f : Y → X) (ys : List Y) → list_all p (map f ys) ≡ list_all (λ y. p (f y)) ys
  pass_map f ys = list_all-map p f ys

  -- a test that follows from another
  pub pass_weaker : (q : X → Bool) → ((x : X) → p x ≡ true → q x ≡ true) → (xs : List X) → list_all p xs ≡ true → list_all q xs ≡ true
  pass_weaker q f xs h = list_all-from_AllPass q xs (λ i d l. f _ (pass_at xs i d l h))
