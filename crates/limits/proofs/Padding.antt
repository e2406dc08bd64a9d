-- Rows that get longer keep 0 in each place behind their numbers.
use Rattle.std.proofs.Common.{◌≡◌, ℕ, ◌+◌, ◌-◌, ◌++◌, ◌<◌, ◌≤◌, ◌⊎◌, inl, inr, min, List, drop, take, length, length-take-le, replicate, subst, sym, ap, ◌∙◌, arith, length-set, slice_set}
use Rattle.std.proofs.lemmas.List.{drop-drop, drop-replicate, drop-set-lt, take-append-drop}
use Rattle.limits.specs.Rows.{IsPadded}

module _ (n len : ℕ) (places : List ℕ) (h : IsPadded n len places) where
  behind_next : drop (len + 1) places ≡ replicate (n - (len + 1)) 0
  behind_next =
      let left : n - len - 1 ≡ n - (len + 1) = omega arith in
      sym (drop-drop 1 len places) ∙ ap (drop 1) h.empty ∙ drop-replicate 1 (n - len) 0 ∙ ap (λ (k : ℕ). replicate k 0) left

  -- a number in the first of those places
  pub padded_set : (x : ℕ) → length (take len places) < n → IsPadded n (len + 1) (slice_set places len x)
  padded_set x room =
      let long = length-take-le len places (omega (arith, h.whole, h.inside)) in
      record {
        whole = length-set places len x ∙ h.whole;
        inside = omega arith;
        empty = drop-set-lt (len + 1) places len x (omega arith) ∙ behind_next;
      }

  -- its 0 for a number, if there is such a place
  padded_grown_to : (k : ℕ) → (k ≡ len) ⊎ ((k ≡ len + 1) × (k ≤ n)) → IsPadded n k places
  padded_grown_to k (inl e) = subst (λ (x : ℕ). IsPadded n x places) (sym e) h
  padded_grown_to k (inr e) = subst (λ (x : ℕ). IsPadded n x places) (sym e.0) (record { whole = h.whole; inside = omega (arith, e.0, e.1); empty = behind_next })

  pub padded_grown : IsPadded n (min n (len + 1)) places
  padded_grown = padded_grown_to (min n (len + 1)) (let inside = h.inside in grind arith)

  -- and the numbers tell all that stands in the fields
  pub padded_back : (places ≡ take len places ++ replicate (n - length (take len places)) 0) × (len ≡ length (take len places))
  padded_back =
      let long = length-take-le len places (omega (arith, h.whole, h.inside)) in
      (rw (long, ← h.empty) (sym (take-append-drop len places)), sym long)
