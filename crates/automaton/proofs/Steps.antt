-- One letter more is settled.
use Rattle.std.proofs.Common.{◌≡◌, ℕ, ◌+◌, ◌*◌, ◌<◌, ◌≤◌, Bool, true, false, ◌&&◌, ◌||◌, eqb, ◌≢◌, ◌⊎◌, sym, refl, ap, ◌∙◌, inl, inr, ⊎_elim, arith}
use Rattle.std.proofs.lemmas.Bool.{cases_eq, cases_lt, eq-eqb, ne_eqb, eqb-true}
use Rattle.automaton.specs.Pass.{Rule, Undone, Pass}
use Rattle.automaton.specs.Places.{Places, Sound}
use Rattle.automaton.specs.Trie.{Edge}
use Rattle.automaton.specs.Walk.{meets, Links}
use Rattle.automaton.proofs.Grows.{edge_once}
use Rattle.automaton.proofs.Walks.{meets_root, meets_step, meets_same}

same_and : (l e b : Bool) → (l ≡ true → e ≡ true → ⊥) → (l && b) ≡ (l && (e || b))
same_and true true b h = absurd (h refl refl)
same_and true false b h = refl
same_and false e b h = refl

or_false : (b : Bool) → b ≡ (b || false)
or_false true = refl
or_false false = refl

and_false : (b : Bool) → false ≡ (b && false)
and_false true = refl
and_false false = refl

-- Where a letter leads that the trie lacks after a state: the walk on from there, in two parts that serve the root and
-- the other states alike.
pub record Back (w : Places) (fail turn : ℕ → ℕ) (x c g : ℕ) : Type 0 where
  pub seen : 0 < turn g
  pub rest : ℕ → Bool
  pub over : (p : ℕ) → p < w.count → meets fail x (w.before p) ≡ (eqb x (w.before p) || rest p)
  pub under : (p : ℕ) → p < w.count → meets fail g (w.state p) ≡ (eqb (w.letter p) c && rest p)

module _ (w : Places) (s : Sound w) (next : ℕ → ℕ → ℕ) (fail turn : ℕ → ℕ) (k t : ℕ) (r : Pass w next fail turn k t)
    (x c : ℕ) (in_c : c < 16) (on : 0 < turn x) (here : 16 * turn x + c ≡ k + 16) where
  pub back_root : x ≡ 0 → Back w fail turn x c 0
  back_root z = record {
    seen = omega (arith, r.links.root.0);
    rest = λ _. false;
    over = λ p l. ap (λ v. meets fail v (w.before p)) z ∙ meets_root fail turn r.links (w.before p) ∙ ap (λ v. eqb v (w.before p)) (sym z) ∙ or_false _;
    under = λ p l. let h = (s.state p l).0 in meets_root fail turn r.links (w.state p) ∙ ne_eqb 0 (w.state p) (λ e. omega arith) ∙ and_false _;
  }

  pub back_link : 0 < x → Back w fail turn x c (next (fail x) c)
  back_link pos =
      let b = r.links.back x pos on in
      let f = r.settled (fail x) c (in_c, b.0, omega (arith, b.1)) in
      record {
        seen = f.seen;
        rest = λ p. meets fail (fail x) (w.before p);
        over = λ p l. meets_step fail turn r.links x (w.before p) on;
        under = f.rule;
      }

  not_yet : Undone turn k x c
  not_yet = (r.inside x on, in_c, λ _. omega arith)

  here_edge : Edge w next x c
  here_edge = r.edge x c not_yet

  -- the letter whose moment it is
  same_moment : (y d : ℕ) → d < 16 → 0 < turn y → 16 * turn y + d ≡ k + 16 → (y ≡ x) × (d ≡ c)
  same_moment y d in_d q e = let a : turn y ≡ turn x = omega arith in (r.once y x q a, omega arith)

  moment_of : (y d : ℕ) → y ≡ x → d ≡ c → 16 * turn y + d ≡ k + 16
  moment_of y d a b = ap (λ n. 16 * turn n + d) a ∙ ap (λ n. 16 * turn x + n) b ∙ here

  rule_none : (g : ℕ) → Back w fail turn x c g → next x c ≡ 0 → Rule w fail x c g
  rule_none g h e p l =
      h.under p l
      ∙ same_and (eqb (w.letter p) c) (eqb x (w.before p)) (h.rest p)
      (λ a b. let q = here_edge.arc p l (sym (eqb-true _ _ b)) (eqb-true _ _ a) in omega (arith, (s.state p l).0))
      ∙ ap (λ v. eqb (w.letter p) c && v) (sym (h.over p l))

  -- the trie lacks the letter after this state: it is filled in
  pub step_none : (g : ℕ) → Back w fail turn x c g → next x c ≡ 0 → (next' : ℕ → ℕ → ℕ) → next' x c ≡ g
      → ((y d : ℕ) → d < 16 → (y ≡ x → d ≡ c → ⊥) → next' y d ≡ next y d) → Pass w next' fail turn (k + 1) t
  step_none g h e next' new old =
      let apart : (y d : ℕ) → Undone turn (k + 1) y d → next' y d ≡ next y d = λ y d u. old y d u.1 (λ a b. let v = moment_of y d a b in let q : 0 < turn y = rw a on in omega (arith, u.2 q)) in
      let less : (y d : ℕ) → Undone turn (k + 1) y d → Undone turn k y d = λ y d u. (u.0, u.1, λ q. omega (arith, u.2 q)) in
      record {
        links = r.links;
        inside = r.inside;
        most = r.most;
        once = r.once;
        own = r.own;
        edge = λ y d u. let a = apart y d u in let b = r.edge y d (less y d u) in record {
          arc = λ p l q m. a ∙ b.arc p l q m;
          from = λ p l q. b.from p l (sym a ∙ q);
          own = λ pos. let o = b.own (omega arith) in (o.0, o.1, o.2 ∙ sym a);
        };
        fresh = λ y d u pos. let a = apart y d u in ap turn a ∙ r.fresh y d (less y d u) (omega arith);
        settled = λ y d u. ⊎_elim
            (λ (lt : 16 * turn y + d < k + 16).
            let a = old y d u.0 (λ a b. let v = moment_of y d a b in omega arith) in
            let b = r.settled y d (u.0, u.1, lt) in
            record { seen = rw a b.seen; rule = λ p l. ap (λ v. meets fail v (w.state p)) a ∙ b.rule p l; arc = λ p l q m. a ∙ b.arc p l q m })
            (λ (ge : k + 16 ≤ 16 * turn y + d).
            let same = same_moment y d u.0 u.1 (omega (arith, u.2)) in
            let is : next' y d ≡ g = ap (λ n. next' n d) same.0 ∙ ap (λ n. next' x n) same.1 ∙ new in
            record {
              seen = rw is h.seen;
              rule = λ p l. ap (λ v. meets fail v (w.state p)) is ∙ rule_none g h e p l
                  ∙ ap (λ n. eqb (w.letter p) n && meets fail x (w.before p)) (sym same.1) ∙ ap (λ n. eqb (w.letter p) d && meets fail n (w.before p)) (sym same.0);
              arc = λ p l q m. absurd (let a = here_edge.arc p l (q ∙ same.0) (m ∙ same.1) in let no : ⊥ = omega (arith, (s.state p l).0) in no);
            })
            (cases_lt (16 * turn y + d) (k + 16));
      }

  -- the letter leads to a state of the trie: that state gets the next turn, and its fail link
  pub step_child : (g y : ℕ) → Back w fail turn x c g → next x c ≡ y → 0 < y → t < 1024 → (fail' turn' : ℕ → ℕ)
      → fail' y ≡ g → ((z : ℕ) → z ≢ y → fail' z ≡ fail z)
      → turn' y ≡ t + 1 → ((z : ℕ) → z ≢ y → turn' z ≡ turn z) → Pass w next fail' turn' (k + 1) (t + 1)
  step_child g y h is pos room fail' turn' fy fz ty tz =
      let mine = here_edge.own (omega arith) in
      let in_y : y < 1024 = omega (arith, (s.state mine.0 mine.1).1, mine.2) in
      let new : turn y ≡ 0 = sym (ap turn is) ∙ r.fresh x c not_yet (omega arith) in
      let other : (z : ℕ) → 0 < turn z → z ≢ y = λ z q e. let a = ap turn e in omega arith in
      let t_same : (z : ℕ) → 0 < turn z → turn' z ≡ turn z = λ z q. tz z (other z q) in
      let f_same : (z : ℕ) → 0 < turn z → fail' z ≡ fail z = λ z q. fz z (other z q) in
      let split : (z : ℕ) → 0 < turn' z → (z ≡ y) ⊎ ((z ≢ y) × (turn' z ≡ turn z) × (0 < turn z)) = λ z q.
      ⊎_elim inl (λ (n : z ≡ y → ⊥). let e = tz z n in inr (n, e, omega arith)) (cases_eq z y) in
      let less : (z d : ℕ) → Undone turn' (k + 1) z d → Undone turn k z d = λ z d u. (u.0, u.1, λ q. let e = t_same z q in omega (arith, u.2 (omega arith))) in
      let gone : (z d : ℕ) → Undone turn' (k + 1) z d → next z d ≢ y = λ z d u e.
      let a = edge_once w next z d x c (r.edge z d (less z d u)) here_edge (e ∙ sym is) (omega arith) in
      let q : 0 < turn z = rw a.0 on in
      let b = t_same z q in
      let v = moment_of z d a.0 a.1 in
      omega (arith, u.2 (omega arith)) in
      let links' : Links fail' turn' = record {
        root = (tz 0 (λ e. omega arith) ∙ r.links.root.0, fz 0 (λ e. omega arith) ∙ r.links.root.1);
        few = λ z. ⊎_elim (λ (e : z ≡ y). let a = ap turn' e ∙ ty in omega arith) (λ (n : z ≡ y → ⊥). omega (arith, tz z n, r.links.few z)) (cases_eq z y);
        back = λ z pz q. ⊎_elim
            (λ (e : z ≡ y).
            let f : fail' z ≡ g = ap fail' e ∙ fy in
            let a : turn' z ≡ t + 1 = ap turn' e ∙ ty in
            let m : turn' (fail' z) ≡ turn g = ap turn' f ∙ t_same g h.seen in
            (omega (arith, h.seen), omega (arith, r.most g)))
            (λ (n : (z ≢ y) × (turn' z ≡ turn z) × (0 < turn z)).
            let b = r.links.back z pz n.2 in
            let m : turn' (fail' z) ≡ turn (fail z) = ap turn' (fz z n.0) ∙ t_same (fail z) b.0 in
            (omega (arith, b.0), omega (arith, b.1, n.1)))
            (split z q);
      } in
      let way : (z v : ℕ) → 0 < turn z → meets fail' z v ≡ meets fail z v = λ z v q. meets_same fail turn r.links fail' f_same z v q in
      let rule : Rule w fail' x c y = λ p l.
      let a : meets fail' y (w.state p) ≡ (eqb y (w.state p) || (eqb (w.letter p) c && h.rest p)) =
      meets_step fail' turn' links' y (w.state p) (omega arith)
      ∙ ap (λ v. eqb y (w.state p) || meets fail' v (w.state p)) fy
      ∙ ap (λ v. eqb y (w.state p) || v) (way g (w.state p) h.seen ∙ h.under p l) in
      let b : meets fail' x (w.before p) ≡ (eqb x (w.before p) || h.rest p) = way x (w.before p) on ∙ h.over p l in
      a ∙ ⊎_elim
      (λ (e : y ≡ w.state p).
      let f = here_edge.from p l (is ∙ e) in
      ap (λ v. v || (eqb (w.letter p) c && h.rest p)) (eq-eqb y (w.state p) e)
      ∙ sym (ap (λ v. v && (eqb x (w.before p) || h.rest p)) (eq-eqb (w.letter p) c f.1) ∙ ap (λ v. v || h.rest p) (eq-eqb x (w.before p) (sym f.0))))
      (λ (n : y ≡ w.state p → ⊥).
      ap (λ v. v || (eqb (w.letter p) c && h.rest p)) (ne_eqb y (w.state p) n)
      ∙ same_and (eqb (w.letter p) c) (eqb x (w.before p)) (h.rest p)
      (λ a b. n (sym is ∙ here_edge.arc p l (sym (eqb-true _ _ b)) (eqb-true _ _ a))))
      (cases_eq y (w.state p))
      ∙ ap (λ v. eqb (w.letter p) c && v) (sym b) in
      record {
        links = links';
        inside = λ z q. ⊎_elim (λ (e : z ≡ y). omega arith) (λ (n : (z ≢ y) × (turn' z ≡ turn z) × (0 < turn z)). r.inside z n.2) (split z q);
        most = λ z. ⊎_elim (λ (e : z ≡ y). let a = ap turn' e ∙ ty in omega arith) (λ (n : z ≡ y → ⊥). omega (arith, tz z n, r.most z)) (cases_eq z y);
        once = λ z v q e. ⊎_elim
            (λ (a : z ≡ y). ⊎_elim
            (λ (b : v ≡ y). a ∙ sym b)
            (λ (n : v ≡ y → ⊥). absurd (let i = ap turn' a ∙ ty in let no : ⊥ = omega (arith, tz v n, r.most v) in no))
            (cases_eq v y))
            (λ (a : (z ≢ y) × (turn' z ≡ turn z) × (0 < turn z)). ⊎_elim
            (λ (b : v ≡ y). absurd (let i = ap turn' b ∙ ty in let no : ⊥ = omega (arith, a.1, r.most z) in no))
            (λ (n : v ≡ y → ⊥). r.once z v a.2 (sym a.1 ∙ e ∙ tz v n))
            (cases_eq v y))
            (split z q);
        own = λ z pz q. ⊎_elim
            (λ (e : z ≡ y). (mine.0, mine.1, mine.2 ∙ is ∙ sym e))
            (λ (n : (z ≢ y) × (turn' z ≡ turn z) × (0 < turn z)). r.own z pz n.2)
            (split z q);
        edge = λ z d u. r.edge z d (less z d u);
        fresh = λ z d u q. tz (next z d) (gone z d u) ∙ r.fresh z d (less z d u) q;
        settled = λ z d u. ⊎_elim
            (λ (e : z ≡ y). let a : turn' z ≡ t + 1 = ap turn' e ∙ ty in absurd (let no : ⊥ = omega (arith, u.2, r.most x) in no))
            (λ (n : (z ≢ y) × (turn' z ≡ turn z) × (0 < turn z)). ⊎_elim
            (λ (lt : 16 * turn z + d < k + 16).
            let f = r.settled z d (u.0, n.2, lt) in
            record {
              seen = rw (t_same (next z d) f.seen) f.seen;
              rule = λ p l. way (next z d) (w.state p) f.seen ∙ f.rule p l ∙ ap (λ v. eqb (w.letter p) d && v) (sym (way z (w.before p) n.2));
              arc = f.arc;
            })
            (λ (ge : k + 16 ≤ 16 * turn z + d).
            let same = same_moment z d u.0 n.2 (omega (arith, u.2, n.1)) in
            let is' : next z d ≡ y = ap (λ v. next v d) same.0 ∙ ap (λ v. next x v) same.1 ∙ is in
            record {
              seen = let m : turn' (next z d) ≡ t + 1 = ap turn' is' ∙ ty in omega arith;
              rule = λ p l. ap (λ v. meets fail' v (w.state p)) is' ∙ rule p l
                  ∙ ap (λ v. eqb (w.letter p) v && meets fail' x (w.before p)) (sym same.1) ∙ ap (λ v. eqb (w.letter p) d && meets fail' v (w.before p)) (sym same.0);
              arc = λ p l q m. ap (λ v. next v d) same.0 ∙ ap (λ v. next x v) same.1 ∙ here_edge.arc p l (q ∙ same.0) (m ∙ same.1);
            })
            (cases_lt (16 * turn z + d) (k + 16)))
            (split z u.1);
      }
