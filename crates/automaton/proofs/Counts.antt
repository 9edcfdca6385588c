-- How many numbers of a list are not 0.
use Rattle.std.proofs.Common.{◌≡◌, ℕ, zero, suc, ◌+◌, ◌<◌, ◌≤◌, Bool, true, false, cond, eqb, List, [], ◌∷◌, length, get_or, set, refl, ap, arith}
use Rattle.std.proofs.lemmas.Bool.{eq-eqb, ne_eqb}
use Rattle.automaton.specs.Breadth.{nonzeros}

at_most_one : (b : Bool) → cond b 0 1 ≤ 1
at_most_one true = omega arith
at_most_one false = omega arith

pub nonzeros-le : (ns : List ℕ) → nonzeros ns ≤ length ns
unfolding nonzeros
nonzeros-le [] = omega arith
nonzeros-le (n ∷ ns) = omega (arith, nonzeros-le ns, at_most_one (eqb n 0))

pub nonzeros-lt : (ns : List ℕ) (i : ℕ) → i < length ns → get_or ns i 0 ≡ 0 → nonzeros ns < length ns
unfolding nonzeros
nonzeros-lt [] i l e = absurd (let no : ⊥ = omega arith in no)
nonzeros-lt (n ∷ ns) zero l e = let c : cond {A = ℕ} (eqb n 0) 0 1 ≡ 0 = ap (λ b. cond {A = ℕ} b 0 1) (eq-eqb n 0 e) in omega (arith, nonzeros-le ns)
nonzeros-lt (n ∷ ns) (suc i) l e = omega (arith, nonzeros-lt ns i (omega arith) e, at_most_one (eqb n 0))

pub nonzeros-set : (ns : List ℕ) (i v : ℕ) → i < length ns → get_or ns i 0 ≡ 0 → 0 < v → nonzeros (set ns i v) ≡ nonzeros ns + 1
unfolding nonzeros
nonzeros-set [] i v l e p = absurd (let no : ⊥ = omega arith in no)
nonzeros-set (n ∷ ns) zero v l e p =
    let c : cond {A = ℕ} (eqb n 0) 0 1 ≡ 0 = ap (λ b. cond {A = ℕ} b 0 1) (eq-eqb n 0 e) in
    let d : cond {A = ℕ} (eqb v 0) 0 1 ≡ 1 = ap (λ b. cond {A = ℕ} b 0 1) (ne_eqb v 0 (λ z. omega arith)) in
    omega arith
nonzeros-set (n ∷ ns) (suc i) v l e p = omega (arith, nonzeros-set ns i v (omega arith) e p)

pub nonzeros_none : (ns : List ℕ) → ((i : ℕ) → get_or ns i 0 ≡ 0) → nonzeros ns ≡ 0
unfolding nonzeros
nonzeros_none [] h = refl
nonzeros_none (n ∷ ns) h = let e : n ≡ 0 = h 0 in let r = nonzeros_none ns (λ i. h (suc i)) in rw e (omega arith)
