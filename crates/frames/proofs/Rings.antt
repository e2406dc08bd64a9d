-- A ring: one more at its end, and what is left without its first.
use Rattle.std.proofs.Common.{◌≡◌, ℕ, ◌+◌, ◌-◌, ◌%◌, ◌<◌, List, [], ◌∷◌, ◌++◌, length, take, drop, set, inl, inr, mod-eq_of_lt, arith, append_assoc, append-nil, drop-drop}
use Rattle.std.proofs.Math.Nat.{mod-eq-sub-mod, mod_self}
use Rattle.std.proofs.Math.Seq.{take-add, take-set-lt}
use Rattle.std.proofs.lemmas.Grind.{common_steps}
use Rattle.std.proofs.lemmas.List.{drop_all, drop-append-le, take-append-le, take_more_set, drop-set-add, drop-set-lt, take-set-le, set-append_left, set-append_right, drop-take, take-take}
use Rattle.std.proofs.lemmas.Bool.{cases_lt}
use Rattle.frames.specs.Rings.{IsRing, round_from, in_ring}

module _ {T : Type 0} {n : ℕ} {xs : List T} {f c : ℕ} (r : IsRing n xs f c) where
  length-round : length (round_from f xs) ≡ n
  length-round = grind (arith, common_steps)

  -- a write to the k-th place round
  round_set : (k : ℕ) (x : T) → k < n → round_from f (set xs ((f + k) % n) x) ≡ set (round_from f xs) k x
  round_set k x here =
      elim (cases_lt (f + k) n) [
        | inl low ↦ grind (arith, common_steps, mod-eq_of_lt low, drop-set-add, take-set-le, set-append_left)
        | inr high ↦
            let past : f + k - n < n = grind arith in
            rw (mod-eq-sub-mod high, mod-eq_of_lt past) (grind (arith, common_steps, drop-set-lt f xs (f + k - n) x, take-set-lt f xs (f + k - n) x, set-append_right (drop f xs) (take f xs) (n - f) k x))
      ]

  -- one more at its end
  pub in_ring-push : (x : T) → c < n → in_ring (set xs ((f + c) % n) x) f (c + 1) ≡ in_ring xs f c ++ (x ∷ [])
  in_ring-push x room = rw (round_set c x room) (grind (arith, take_more_set, length-round))

  -- without its first
  pub in_ring-pop : (m : ℕ) → c ≡ 1 + m → in_ring xs ((f + 1) % n) m ≡ drop 1 (in_ring xs f c)
  in_ring-pop m e =
      let rest : drop 1 (round_from f xs) ≡ drop (f + 1) xs ++ take f xs = grind (arith, common_steps, drop-append-le 1 (drop f xs) (take f xs), drop-drop 1 f xs) in
      rw (e, drop-take 1 m (round_from f xs), rest)
      (elim (cases_lt (f + 1) n) [
        | inl low ↦ rw (mod-eq_of_lt low, take-add f 1 xs, ← append_assoc) (grind (arith, common_steps, take-append-le m (drop (f + 1) xs ++ take f xs)))
        | inr high ↦
            let all : f + 1 ≡ n = grind arith in
            rw (all, mod_self n, drop_all n xs (grind arith), append-nil) (grind (arith, take-take m f xs))
      ])
