-- A limit on a rule keeps the laws that both keep; rising lists it needs of the rule alone.
use Rattle.std.specs.Prelude.{◌≡◌, ℕ, ◌+◌, ◌≤◌, max, true, ◌⊎◌, List, [], ◌∷◌, ◌++◌, Some, None, Option, refl}
use Rattle.std.proofs.Common.{append_assoc, inl, inr, arith}
use Rattle.rules.specs.Rules.{Meaning, may, Order, Early, Late, Reach}
use Rattle.rules.specs.Layers.{later, layered, Begins}
use Rattle.rules.specs.Lots.{FirstLot, SecondLot}

-- no stroke, or one that is no later than u
abbrev Before : Option ℕ → ℕ → Type 0
Before o u = (o ≡ None) ⊎ ((v : ℕ) × (v ≤ u) × (o ≡ Some v))

later_none : (x y : Option ℕ) → later x y ≡ None → (x ≡ None) × (y ≡ None)
later_none None y h = (refl, h)
later_none (Some u) None h = (h, refl)
later_none (Some u) (Some v) h = (cc, cc)

later_some : (x y : Option ℕ) (u : ℕ) → later x y ≡ Some u → Before x u × Before y u
later_some None None u h = (inl refl, inl refl)
later_some None (Some v) u h = let e : v ≡ u = cc in (inl refl, inr (v, omega arith, refl))
later_some (Some v) None u h = let e : v ≡ u = cc in (inr (v, omega arith, refl), inl refl)
later_some (Some v) (Some w) u h = let e : max v w ≡ u = cc in (inr (v, omega arith, refl), inr (w, omega arith, refl))

module _ (m : Meaning) where
  last_later : Late m → (ts : List ℕ) (u a b : ℕ) → a ≤ b → m.allows (ts ++ (u ∷ a ∷ [])) ≡ true → m.allows (ts ++ (u ∷ b ∷ [])) ≡ true
  last_later late ts u a b ab h =
      rw (append_assoc ts (u ∷ []) (b ∷ [])) at (late (ts ++ (u ∷ [])) a b ab (rw (append_assoc ts (u ∷ []) (a ∷ [])) h))

  reached : (r s u : ℕ) → Late m → Reach m r → r ≤ s → Before m.last u → may m (u + s) ≡ true
  reached r s u late reach rs (inl none) = reach.unstruck none (u + s)
  reached r s u late reach rs (inr some) = late [] (some.0 + r) (u + s) (omega arith) (reach.again some.0 some.2)

module _ (own m : Meaning) where
  -- the first lot
  pub layered_order : Begins own → Order m → Order (layered own m)
  layered_order b l = record {
    rising = λ ts h. let a = l.rising ts in grind arith;
    empty = let a = l.empty in let e = b.empty in grind arith;
    beginning = λ ts us h. let a = l.beginning ts us in let e = b.beginning ts us in grind arith;
  }

  pub layered_early : Early own → Early m → Early (layered own m)
  layered_early early l ts us v nl h k = let a = l ts us v nl in let b = early ts us v nl in grind arith

  -- the second lot
  pub layered_late : Late own → Late m → Late (layered own m)
  layered_late late l ts u v uv h = let a = l ts u v uv in let b = late ts u v uv in grind arith

  pub layered_reach : (s r : ℕ) → Late own → Reach own s → Late m → Reach m r → Reach (layered own m) (max r s)
  layered_reach s r late reach later l = record {
    unstruck = λ none x. let n = later_none own.last m.last none in let a = l.unstruck n.1 x in let b = reach.unstruck n.0 x in grind arith;
    again = λ u some.
        let e = later_some own.last m.last u some in
        let a = reached m r (max r s) u later l (omega arith) e.1 in
        let b = reached own s (max r s) u late reach (omega arith) e.0 in
        grind arith;
    next = λ ts u h.
        let a = λ (k : m.allows (ts ++ (u ∷ [])) ≡ true). last_later m later ts u (u + r) (u + max r s) (omega arith) (l.next ts u k) in
        let b = λ (k : own.allows (ts ++ (u ∷ [])) ≡ true). last_later own late ts u (u + s) (u + max r s) (omega arith) (reach.next ts u k) in
        grind arith;
  }

pub first_lot : (own : Meaning) → Begins own → Early own → FirstLot (layered own)
first_lot own b e m = (layered_order own m b, layered_early own m e)

pub second_lot : (own : Meaning) (s : ℕ) → Late own → Reach own s → SecondLot (layered own) s
second_lot own s late reach m r l = (layered_late own m late l, layered_reach own m s r late reach l)
