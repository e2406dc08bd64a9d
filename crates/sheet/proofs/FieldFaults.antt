-- The faults of a line: on that line, and in the first field that is wrong.
use Rattle.std.proofs.Common.{◌≡◌, ℕ, suc, ◌-◌, ◌<◌, ◌≤◌, true, ◌&&◌, eqb, ltb, leb, List, [], ◌∷◌, length, take as first, Some, None, Err, Option, sym, refl, ap, ◌∙◌, subst, ⊎_elim, arith}
use Rattle.std.proofs.lemmas.Bool.{and_parts, and_from, leb-true, le-leb, eqb-true, eq-eqb, ltb-true, lt-ltb}
use Rattle.limits.specs.Strokes.{longest}
use Rattle.sheet.specs.Sheet.{Kind, bell, call}
use Rattle.sheet.specs.Faults.{Fault, at, Checked}
use Rattle.sheet.specs.Check.{kind_of, Row, of_bell, of_call, bell_row, room, call_row, row_of, row}
use Rattle.sheet.specs.Promises.{FirstField}
use Rattle.sheet.specs.declared.ask.Wish.{Wish}
use Rattle.sheet.proofs.Steps.{must_is, must_err}
use Rattle.sheet.proofs.Orderly.{number_field, range_field, Wrong, Orderly, orderly_same, orderly_then, orderly_more, orderly_none, orderly_distances}

-- a bell's line, behind its kind
bell_orderly : (k : ℕ) (a : List ℕ) (m : ℕ) → k ≤ 8 → m ≤ 16 → Orderly k 2 (suc (suc (suc (suc (suc m))))) (λ ts. bell_row k (a ∷ ts))
bell_orderly k a m k₈ few =
    orderly_same (λ ts len. must_is (at k 0 4) _ (and_from (leb 6 (length (a ∷ ts))) (leb (length (a ∷ ts)) 22) (le-leb 6 (length (a ∷ ts)) (omega arith)) (le-leb (length (a ∷ ts)) 22 (omega arith)))) (
    orderly_same (λ ts len. must_is (at k 1 15) _ (le-leb k 8 k₈)) (
    orderly_more (range_field k 2 15 (k - 1) (k - 1) (omega arith) (omega arith)) (λ t ts. refl) (λ _ _.
    orderly_more (range_field k 3 3 1 255 (omega arith) (omega arith)) (λ t ts. refl) (λ n₁ _.
    orderly_more (range_field k 4 3 1 longest (omega arith) (omega arith)) (λ t ts. refl) (λ p₁ _.
    orderly_more (range_field k 5 3 1 255 (omega arith) (omega arith)) (λ t ts. refl) (λ n₂ _.
    orderly_more (range_field k 6 3 1 longest (omega arith) (omega arith)) (λ t ts. refl) (λ p₂ _.
    orderly_then (λ ds. of_bell (record { burst₁ = n₁; period₁ = p₁; burst₂ = n₂; period₂ = p₂; distances = ds })) (orderly_distances k 7 0 m (omega arith)))))))))

-- a call's line, behind its kind
call_orderly : (k q : ℕ) (w : Wish) (a : List ℕ) → 8 < k → room w q ≡ true → Orderly k 2 2 (λ ts. call_row k q w (a ∷ ts))
call_orderly k q w a k₈ roomy =
    orderly_same (λ ts len. must_is (at k 0 4) _ (eq-eqb (length (a ∷ ts)) 3 (omega arith))) (
    orderly_same (λ ts len. must_is (at k 1 15) _ (lt-ltb 8 k k₈)) (
    orderly_same (λ ts len. must_is (at k 1 12) _ roomy) (
    orderly_more (number_field k 2) (λ t ts. refl) (λ n _.
    orderly_more (number_field k 3) (λ t ts. refl) (λ t _.
    orderly_none (of_call (record { wish = w; bell = n; tick = t })) refl)))))

-- a fault is on the line; and where it is not of the line's kind, shape or place, its fields are checked in their order
abbrev Sound : ℕ → (List (List ℕ) → Checked Row) → List (List ℕ) → Fault → Type 0
Sound k c ts f = (f.line ≡ k) × (2 ≤ f.field → Orderly k 2 (length ts) c)

module _ (k : ℕ) (c : List (List ℕ) → Checked Row) (ts : List (List ℕ)) (f : Fault) where
  sound_shape : (i x : ℕ) → at k i x ≡ f → i < 2 → Sound k c ts f
  sound_shape i x e low = (ap (λ (g : Fault). g.line) (sym e), λ two. let s = ap (λ (g : Fault). g.field) e in absurd (omega arith))

  sound_fields : (l : ℕ) → l ≡ length ts → Orderly k 2 l c → c ts ≡ Err f → Sound k c ts f
  sound_fields l len o h = ((o.wrong ts f (sym len) h).on, λ _. subst (λ (n : ℕ). Orderly k 2 n c) len o)

bell_sound : (k : ℕ) (a : List ℕ) (ts : List (List ℕ)) (f : Fault) → bell_row k (a ∷ ts) ≡ Err f → Sound k (λ us. bell_row k (a ∷ us)) ts f
bell_sound k a ts f h = ⊎_elim
    (λ e. sound_shape k _ ts f 0 4 e (omega arith))
    (λ b. ⊎_elim
    (λ e. sound_shape k _ ts f 1 15 e (omega arith))
    (λ d.
    let count = and_parts (leb 6 (length (a ∷ ts))) (leb (length (a ∷ ts)) 22) b.0 in
    let many = leb-true 6 (length (a ∷ ts)) count.0 in
    let most = leb-true (length (a ∷ ts)) 22 count.1 in
    sound_fields k _ ts f _ (omega arith) (bell_orderly k a (length ts - 5) (leb-true k 8 d.0) (omega arith)) h)
    (must_err (leb k 8) (at k 1 15) _ f b.1))
    (must_err (leb 6 (length (a ∷ ts)) && leb (length (a ∷ ts)) 22) (at k 0 4) _ f h)

call_sound : (k q : ℕ) (w : Wish) (a : List ℕ) (ts : List (List ℕ)) (f : Fault) → call_row k q w (a ∷ ts) ≡ Err f → Sound k (λ us. call_row k q w (a ∷ us)) ts f
call_sound k q w a ts f h = ⊎_elim
    (λ e. sound_shape k _ ts f 0 4 e (omega arith))
    (λ b. ⊎_elim
    (λ e. sound_shape k _ ts f 1 15 e (omega arith))
    (λ d. ⊎_elim
    (λ e. sound_shape k _ ts f 1 12 e (omega arith))
    (λ r. let three = eqb-true (length (a ∷ ts)) 3 b.0 in sound_fields k _ ts f 2 (omega arith) (call_orderly k q w a (ltb-true 8 k d.0) r.0) h)
    (must_err (room w q) (at k 1 12) _ f d.1))
    (must_err (ltb 8 k) (at k 1 15) _ f b.1))
    (must_err (eqb (length (a ∷ ts)) 3) (at k 0 4) _ f h)

row_sound : (k q : ℕ) (a : List ℕ) (ts : List (List ℕ)) (f : Fault) (o : Option Kind) → row_of k q (a ∷ ts) o ≡ Err f → Sound k (λ us. row_of k q (a ∷ us) o) ts f
row_sound k q a ts f None h = sound_shape k _ ts f 1 4 (cc) (omega arith)
row_sound k q a ts f (Some bell) h = bell_sound k a ts f h
row_sound k q a ts f (Some (call w)) h = call_sound k q w a ts f h

pub row_line : (k q : ℕ) (fs : List (List ℕ)) (f : Fault) → row k q fs ≡ Err f → f.line ≡ k
row_line k q [] f h = cc
row_line k q (a ∷ ts) f h = (row_sound k q a ts f (kind_of a) h).0

pub first_field : (k q : ℕ) (fields : List (List ℕ)) (f : Fault) → row k q fields ≡ Err f → 2 ≤ f.field → FirstField k q fields f
first_field k q [] f h two = let s : at k 1 4 ≡ f = cc in let l = ap (λ (g : Fault). g.field) s in absurd (omega arith)
first_field k q (a ∷ ts) f h two =
    let b = w.before in
    record {
      before = (a ∷ b.0, b.1, ap suc b.2, subst (λ (x : ℕ). first x (a ∷ b.0) ≡ first x (a ∷ ts)) j (ap (λ (xs : List (List ℕ)). a ∷ xs) b.3), b.4);
      after = after;
    }
  where
    w : Wrong k 2 (length ts) (λ us. row_of k q (a ∷ us) (kind_of a)) ts f
    w = ((row_sound k q a ts f (kind_of a) h).1 two).wrong ts f refl h

    j : suc (f.field - 2) ≡ f.field - 1
    j = omega arith

    after : (others : List (List ℕ)) → length others ≡ suc (length ts) → first f.field others ≡ first f.field (a ∷ ts) → row k q others ≡ Err f
    after [] len e = absurd (omega arith)
    after (x ∷ us) len e =
        let i : f.field ≡ suc (suc (f.field - 2)) = omega arith in
        let e' = subst (λ (n : ℕ). first n (x ∷ us) ≡ first n (a ∷ ts)) i e in
        let same : x ≡ a = cc in
        ap (λ (y : List ℕ). row k q (y ∷ us)) same ∙ w.after us (omega arith) (cc)
