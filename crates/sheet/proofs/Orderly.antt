-- Checks that take the fields of a line one after another: the fault that they find is that of the first wrong field.
use Rattle.std.proofs.Common.{◌≡◌, ℕ, zero, suc, ◌-◌, ◌≤◌, ◌&&◌, leb, List, [], ◌∷◌, length, take as first, Ok, Err, decimal, sym, refl, ap, ◌∙◌, subst, ⊎_elim, arith}
use Rattle.limits.specs.Strokes.{longest}
use Rattle.sheet.specs.Numbers.{Writable}
use Rattle.sheet.specs.Faults.{Fault, at, Checked, ◌>>=◌}
use Rattle.sheet.specs.Check.{number_at, range_at, distances_at}
use Rattle.sheet.proofs.Steps.{bind_is, bind_err, must_err}
use Rattle.sheet.proofs.Fields.{number_there, range_back, range_there}

-- one field: its faults are in its place, and some text is right
pub record Field (k i : ℕ) (read : List ℕ → Checked ℕ) (Right : ℕ → Type 0) : Type 0 where
  pub here : (t : List ℕ) (f : Fault) → read t ≡ Err f → (f.line ≡ k) × (f.field ≡ i)
  pub right : (t : List ℕ) (n : ℕ) → read t ≡ Ok n → Right n
  pub text : List ℕ
  pub number : ℕ
  pub reads : read text ≡ Ok number

pub number_field : (k i : ℕ) → Field k i (number_at k i) (λ _. Unit {0})
number_field k i = record { here = λ t f e. (grind arith, grind arith); right = λ _ _ _. tt; text = decimal 0; number = 0; reads = number_there k i 0 (omega arith) }

pub range_field : (k i x low high : ℕ) → low ≤ high → Writable low → Field k i (range_at k i x low high) (λ n. (low ≤ n) × (n ≤ high))
range_field k i x low high l w = record {
  here = λ t f e. ⊎_elim (λ a. (number_field k i).here t f a) (λ a. ⊎_elim (λ b. (cc, cc)) (λ b. cc b.1) (must_err (leb low a.0 && leb a.0 high) (at k i x) _ f a.2)) (bind_err (number_at k i t) _ f e);
  right = λ t n e. let r = range_back k i x low high t n e in (r.1, r.2);
  text = decimal low;
  number = low;
  reads = range_there k i x low high low (omega arith) l w;
}

-- a fault of l texts, which are the fields from field i on: those before it begin l texts that pass, and those behind it do not matter
pub record Wrong {A : Type 0} (k i l : ℕ) (c : List (List ℕ) → Checked A) (ts : List (List ℕ)) (f : Fault) : Type 0 where
  pub on : f.line ≡ k
  pub from : i ≤ f.field
  pub before : (us : List (List ℕ)) × (a : A) × (length us ≡ l) × (first (f.field - i) us ≡ first (f.field - i) ts) × (c us ≡ Ok a)
  pub after : (us : List (List ℕ)) → length us ≡ l → first (suc (f.field - i)) us ≡ first (suc (f.field - i)) ts → c us ≡ Err f

-- a check of l texts that some pass, and all of whose faults are such
pub record Orderly {A : Type 0} (k i l : ℕ) (c : List (List ℕ) → Checked A) : Type 0 where
  pub passed : (us : List (List ℕ)) × (a : A) × (length us ≡ l) × (c us ≡ Ok a)
  pub wrong : (ts : List (List ℕ)) (f : Fault) → length ts ≡ l → c ts ≡ Err f → Wrong k i l c ts f

pub orderly_none : {A : Type 0} {k i : ℕ} {c : List (List ℕ) → Checked A} (a : A) → c [] ≡ Ok a → Orderly k i 0 c
orderly_none {k = k} {i = i} {c = c} a e = record { passed = ([], a, refl, e); wrong = wrong }
  where
    wrong : (ts : List (List ℕ)) (f : Fault) → length ts ≡ 0 → c ts ≡ Err f → Wrong k i 0 c ts f
    wrong [] f len h = cc
    wrong (t ∷ ts) f len h = absurd (omega arith)

-- another check that does the same on l texts
pub orderly_same : {A : Type 0} {k i l : ℕ} {c c' : List (List ℕ) → Checked A} → ((ts : List (List ℕ)) → length ts ≡ l → c ts ≡ c' ts) → Orderly k i l c' → Orderly k i l c
orderly_same same o = record {
  passed = let p = o.passed in (p.0, p.1, p.2, same p.0 p.2 ∙ p.3);
  wrong = λ ts f len e.
      let w = o.wrong ts f len (sym (same ts len) ∙ e) in
      let b = w.before in
      record { on = w.on; from = w.from; before = (b.0, b.1, b.2, b.3, same b.0 b.2 ∙ b.4); after = λ us len h. same us len ∙ w.after us len h };
}

-- what was found put to use
pub orderly_then : {A B : Type 0} {k i l : ℕ} {c : List (List ℕ) → Checked A} (g : A → B) → Orderly k i l c → Orderly k i l (λ ts. c ts >>= λ a. Ok (g a))
orderly_then {c = c} g o = record {
  passed = let p = o.passed in (p.0, g p.1, p.2, bind_is _ p.3);
  wrong = λ ts f len e. ⊎_elim
      (λ h.
      let w = o.wrong ts f len h in
      let b = w.before in
      record { on = w.on; from = w.from; before = (b.0, g b.1, b.2, b.3, bind_is _ b.4); after = λ us len h. ap (λ r. r >>= λ a. Ok (g a)) (w.after us len h) })
      (λ a. cc a.2)
      (bind_err (c ts) _ f e);
}

-- one field more in front
module _ {A : Type 0} {k i l : ℕ} {c : List (List ℕ) → Checked A} {next : ℕ → List (List ℕ) → Checked A} {read : List ℕ → Checked ℕ} {Right : ℕ → Type 0} (field : Field k i read Right) (is : (t : List ℕ) (ts : List (List ℕ)) → c (t ∷ ts) ≡ (read t >>= λ n. next n ts)) (rest : (n : ℕ) → Right n → Orderly k (suc i) l (next n)) where
  some : (us : List (List ℕ)) × (a : A) × (length us ≡ suc l) × (c us ≡ Ok a)
  some =
      let p = (rest field.number (field.right field.text field.number field.reads)).passed in
      (field.text ∷ p.0, p.1, ap suc p.2, is field.text p.0 ∙ bind_is _ field.reads ∙ p.3)

  wrong_here : (t : List ℕ) (ts : List (List ℕ)) (f : Fault) → read t ≡ Err f → Wrong k i (suc l) c (t ∷ ts) f
  wrong_here t ts f e =
      let place = field.here t f e in
      let j : 0 ≡ f.field - i = omega arith in
      record {
        on = place.0;
        from = omega arith;
        before = (some.0, some.1, some.2, subst (λ (x : ℕ). first x some.0 ≡ first x (t ∷ ts)) j refl, some.3);
        after = after;
      }
    where
      after : (us : List (List ℕ)) → length us ≡ suc l → first (suc (f.field - i)) us ≡ first (suc (f.field - i)) (t ∷ ts) → c us ≡ Err f
      after [] len h = absurd (omega arith)
      after (u ∷ us) len h = let same : u ≡ t = cc in is u us ∙ ap (λ r. r >>= λ n. next n us) (ap read same ∙ e)

  wrong_later : (t : List ℕ) (ts : List (List ℕ)) (f : Fault) (n : ℕ) → read t ≡ Ok n → Wrong k (suc i) l (next n) ts f → Wrong k i (suc l) c (t ∷ ts) f
  wrong_later t ts f n e w =
      let b = w.before in
      record {
        on = w.on;
        from = omega (arith, w.from);
        before = (t ∷ b.0, b.1, ap suc b.2, subst (λ (x : ℕ). first x (t ∷ b.0) ≡ first x (t ∷ ts)) j (ap (λ (xs : List (List ℕ)). t ∷ xs) b.3), is t b.0 ∙ bind_is _ e ∙ b.4);
        after = after;
      }
    where
      j : suc (f.field - suc i) ≡ f.field - i
      j = omega (arith, w.from)

      after : (us : List (List ℕ)) → length us ≡ suc l → first (suc (f.field - i)) us ≡ first (suc (f.field - i)) (t ∷ ts) → c us ≡ Err f
      after [] len h = absurd (omega arith)
      after (u ∷ us) len h =
          let same : u ≡ t = cc in
          let more : first (f.field - i) us ≡ first (f.field - i) ts = cc in
          is u us ∙ bind_is _ (ap read same ∙ e) ∙ w.after us (omega arith) (subst (λ (x : ℕ). first x us ≡ first x ts) (sym j) more)

  pub orderly_more : Orderly k i (suc l) c
  orderly_more = record { passed = some; wrong = wrong }
    where
      wrong : (ts : List (List ℕ)) (f : Fault) → length ts ≡ suc l → c ts ≡ Err f → Wrong k i (suc l) c ts f
      wrong [] f len e = absurd (omega arith)
      wrong (t ∷ ts) f len e = ⊎_elim
          (λ a. wrong_here t ts f a)
          (λ a. wrong_later t ts f a.0 a.1 ((rest a.0 (field.right t a.0 a.1)).wrong ts f (omega arith) a.2))
          (bind_err (read t) _ f (sym (is t ts) ∙ e))

pub orderly_distances : (k i low l : ℕ) → low ≤ longest → Orderly k i l (distances_at k i low)
orderly_distances k i low zero h = orderly_none [] refl
orderly_distances k i low (suc l) h = orderly_more (range_field k i 3 low longest h (omega arith)) (λ t ts. refl) (λ d r. orderly_then (λ ds. d ∷ ds) (orderly_distances k (suc i) d l r.1))
