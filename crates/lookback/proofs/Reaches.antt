-- Distances between the ends of keywords.
use Rattle.std.proofs.Common.{◌≡◌, ℕ, zero, suc, ◌+◌, ◌%◌, ◌<◌, ◌≤◌, Bool, false, List, [], ◌∷◌, length, get_or, drop, refl, arith}
use Rattle.book.specs.declared.rows.LineRow.{LineRow}
use Rattle.book.specs.declared.rows.KeywordRow.{KeywordRow}
use Rattle.book.specs.Proper.{AllFit}
use Rattle.lookback.specs.Prefixes.{reach, prefix_ends}

pub reach_at : (ks : List KeywordRow) (k : ℕ) (d : KeywordRow) → k < length ks → reach ks k ≡ (get_or ks k d).gap + (get_or ks k d).length
reach_at [] k d h = absurd (let z : ⊥ = omega arith in z)
reach_at (r ∷ rs) zero d h = refl
reach_at (r ∷ rs) (suc k) d h = reach_at rs k d (omega arith)

none : KeywordRow
none = record { gap = 0; first = 0; length = 0 }

-- a distance is 1 to 128
pub near : (ks : List KeywordRow) → AllFit ks → (k : ℕ) → k < length ks → (1 ≤ reach ks k) × (reach ks k ≤ 128)
near ks fit k h =
    let f = fit k none h in
    let e = reach_at ks k none h in
    (omega (arith, f.some), omega (arith, f.short, f.narrow))

-- distances with the same remainder are the same
pub same_distance : (a b : ℕ) → 1 ≤ a → a ≤ 128 → 1 ≤ b → b ≤ 128 → a % 128 ≡ b % 128 → a ≡ b
same_distance a b p q r s e = omega arith

-- before the first tick no prefix has ended
pub none_ended : (ls : List LineRow) (ks : List KeywordRow) (k : ℕ) → prefix_ends ls ks [] k ≡ false
unfolding prefix_ends
none_ended ls ks zero = refl
none_ended ls ks (suc k) = refl

pub drop_none : (n : ℕ) → drop {A = ℕ → Bool} n [] ≡ []
drop_none zero = refl
drop_none (suc n) = refl
