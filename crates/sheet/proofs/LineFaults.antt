-- The fault of a sheet, line by line: the lines before it are good, and those behind it do not matter.
use Rattle.std.proofs.Common.{◌≡◌, ℕ, suc, ◌+◌, ◌-◌, ◌<◌, ◌≤◌, eqb, ltb, List, [], ◌∷◌, ◌++◌, length, take, Ok, Err, sym, ap, ◌∙◌, subst, ⊎_elim, arith}
use Rattle.sheet.specs.Parts.{tab, parted}
use Rattle.sheet.specs.Sheet.{Sheet}
use Rattle.sheet.specs.Faults.{Fault, at, ◌>>=◌}
use Rattle.sheet.specs.Check.{Row, row, requests_in, with_row, check_from}
use Rattle.sheet.proofs.Steps.{bind_is, bind_err, must_err}
use Rattle.sheet.proofs.Lines.{Good, none_good, good_row}
use Rattle.sheet.proofs.FieldFaults.{row_line}

-- a fault after n lines and q requests
pub record Faulted (n q : ℕ) (parts : List (List ℕ)) (f : Fault) : Type 0 where
  pub from : n < f.line
  pub upto : f.line ≤ n + length parts
  pub good : (s : Sheet) × Good n q (take (f.line - suc n) parts) s.entries s.asks
  pub stays : f.line < n + length parts → (more : List (List ℕ)) → 0 < length more → check_from (suc n) q (take (f.line - n) parts ++ more) ≡ Err f
  pub last : f.line ≡ n + length parts → f.field ≡ 0

no_lines : (n q x : ℕ) (parts : List (List ℕ)) → 0 ≡ x → (s : Sheet) × Good n q (take x parts) s.entries s.asks
no_lines n q x parts e = (record { entries = []; asks = [] }, subst (λ (y : ℕ). Good n q (take y parts) [] []) e (none_good n q))

-- in the last part: the line as a whole
faulted_end : (n q x : ℕ) (part : List ℕ) (f : Fault) → at (suc n) 0 x ≡ f → Faulted n q (part ∷ []) f
faulted_end n q x part f e =
    let line = ap (λ (g : Fault). g.line) e in
    record { from = omega arith; upto = omega arith; good = no_lines n q (f.line - suc n) (part ∷ []) (omega arith); stays = λ l. absurd (omega arith); last = λ _. ap (λ (g : Fault). g.field) (sym e) }

-- in the first of several
faulted_here : (n q : ℕ) (part next : List ℕ) (parts : List (List ℕ)) (f : Fault) → row (suc n) q (parted tab part) ≡ Err f → Faulted n q (part ∷ next ∷ parts) f
faulted_here n q part next parts f e =
    let line = row_line (suc n) q (parted tab part) f e in
    let j : 1 ≡ f.line - n = omega arith in
    record {
      from = omega arith;
      upto = omega arith;
      good = no_lines n q (f.line - suc n) (part ∷ next ∷ parts) (omega arith);
      stays = λ _ more some. subst (λ (x : ℕ). check_from (suc n) q (take x (part ∷ next ∷ parts) ++ more) ≡ Err f) j (still more some);
      last = λ l. absurd (omega arith);
    }
  where
    still : (more : List (List ℕ)) → 0 < length more → check_from (suc n) q (part ∷ more) ≡ Err f
    still [] l = absurd (omega arith)
    still (x ∷ more) l = cc

-- behind it
faulted_later : (n q : ℕ) (part next : List ℕ) (parts : List (List ℕ)) (r : Row) (f : Fault) → row (suc n) q (parted tab part) ≡ Ok r → Faulted (suc n) (q + requests_in r) (next ∷ parts) f → Faulted n q (part ∷ next ∷ parts) f
faulted_later n q part next parts r f h rest =
    let from = rest.from in
    let upto = rest.upto in
    let last = rest.last in
    let i : suc (f.line - suc (suc n)) ≡ f.line - suc n = omega arith in
    let j : suc (suc (f.line - suc (suc n))) ≡ f.line - n = omega arith in
    let g = rest.good in
    record {
      from = omega arith;
      upto = omega arith;
      good = (with_row r g.0, subst (λ (x : ℕ). Good n q (take x (part ∷ next ∷ parts)) (with_row r g.0).entries (with_row r g.0).asks) i (good_row n q part (take (f.line - suc (suc n)) (next ∷ parts)) r g.0 h g.1));
      stays = λ l more some.
          let on = rest.stays (omega arith) more some in
          let on' = subst (λ (x : ℕ). check_from (suc (suc n)) (q + requests_in r) (take x (next ∷ parts) ++ more) ≡ Err f) (sym i) on in
          subst (λ (x : ℕ). check_from (suc n) q (take x (part ∷ next ∷ parts) ++ more) ≡ Err f) j (bind_is _ h ∙ ap (λ r'. r' >>= λ s. Ok (with_row r s)) on');
      last = λ e. last (omega arith);
    }

pub faulted : (n q : ℕ) (parts : List (List ℕ)) (f : Fault) → 0 < length parts → check_from (suc n) q parts ≡ Err f → Faulted n q parts f
faulted n q [] f some h = absurd (omega arith)
faulted n q (part ∷ []) f some h = ⊎_elim
    (λ e. faulted_end n q 4 part f e)
    (λ a. ⊎_elim (λ e. faulted_end n q 15 part f e) (λ b. cc b.1) (must_err (ltb 8 (suc n)) (at (suc n) 0 15) _ f a.1))
    (must_err (eqb (length part) 0) (at (suc n) 0 4) _ f h)
faulted n q (part ∷ next ∷ parts) f some h = ⊎_elim
    (λ e. faulted_here n q part next parts f e)
    (λ a. ⊎_elim
    (λ e. faulted_later n q part next parts a.0 f a.1 (faulted (suc n) (q + requests_in a.0) (next ∷ parts) f (omega arith) e))
    (λ b. cc b.2)
    (bind_err (check_from (suc (suc n)) (q + requests_in a.0) (next ∷ parts)) _ f a.2))
    (bind_err (row (suc n) q (parted tab part)) _ f h)
