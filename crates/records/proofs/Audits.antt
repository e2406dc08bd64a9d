-- What an audit says, and how it goes record by record.
use Rattle.std.proofs.Common.{if◌then◌else◌, ◌≡◌, ℕ, suc, ◌+◌, ◌-◌, ◌<◌, ◌≤◌, Bool, true, false, leb, List, [], ◌∷◌, length, take, Some, None, Option, refl, subst, arith, MatchOption}
use Rattle.std.proofs.lemmas.Bool.{and_parts, leb-true}
use Rattle.std.proofs.lemmas.Bool.Decides.{nat_tests}
use Rattle.limits.specs.Strokes.{last_tick}
use Rattle.rules.specs.Rules.{Meaning, may, struck}
use Rattle.rules.specs.Calls.{can_strike}
use Rattle.records.specs.Audits.{audit, audited, Takes, Refuses, Audited}

-- the audit from place k on
abbrev Said : Meaning → ℕ → List ℕ → Option ℕ → Type 0
Said m k ts None = Takes m ts
Said m k ts (Some j) = (i : ℕ) × (j ≡ k + i) × (i < length ts) × Takes m (take i ts) × (Takes m (take (suc i) ts) → ⊥)

said_more : (m : Meaning) (k t : ℕ) (ts : List ℕ) (r : Option ℕ) → t ≤ last_tick → Said (struck t m) (suc k) ts r → Said m k (t ∷ ts) r
said_more m k t ts None l h = (h.0, (l, h.1))
said_more m k t ts (Some j) l h =
    let e = h.1 in
    let n = h.2 in
    (suc h.0, omega arith, omega arith, (h.3.0, (l, h.3.1)), λ g. h.4 (g.0, g.1.1))

said_here : (m : Meaning) (k t : ℕ) (ts : List ℕ) → m.allows [] ≡ true → can_strike m t ≡ false → Said m k (t ∷ ts) (Some k)
said_here m k t ts empty e = (0, omega arith, omega arith, (empty, tt), λ g. let allowed = g.0 in let early = g.1.0 in grind (arith, nat_tests))

said_cons : (m : Meaning) (k t : ℕ) (ts : List ℕ) → m.allows [] ≡ true → (b : Bool) → can_strike m t ≡ b → (may m t ≡ true → Said (struck t m) (suc k) ts (audit (struck t m) (suc k) ts)) → Said m k (t ∷ ts) (if b then audit (struck t m) (suc k) ts else Some k)
said_cons m k t ts empty false e rest = said_here m k t ts empty e
said_cons m k t ts empty true e rest =
    let both = and_parts (leb t last_tick) (may m t) e in
    said_more m k t ts (audit (struck t m) (suc k) ts) (leb-true t last_tick both.0) (rest both.1)

said : (m : Meaning) (k : ℕ) (ts : List ℕ) → m.allows [] ≡ true → Said m k ts (audit m k ts)
said m k [] empty = (empty, tt)
said m k (t ∷ ts) empty = said_cons m k t ts empty (can_strike m t) refl (λ ok. said (struck t m) (suc k) ts ok)

places : (m : Meaning) (ts : List ℕ) (r : Option ℕ) → Said m 1 ts r → MatchOption r (Takes m ts) (Refuses m ts)
places m ts None h = h
places m ts (Some j) h =
    let e = h.1 in
    let n = h.2 in
    let i : h.0 ≡ j - 1 = omega arith in
    let k : suc h.0 ≡ j = omega arith in
    record {
      place = (omega arith, omega arith);
      before = subst (λ (x : ℕ). Takes m (take x ts)) i h.3;
      there = subst (λ (x : ℕ). Takes m (take x ts) → ⊥) k h.4;
    }

-- none if the rule can be struck at all the ticks, and else the place of the first at which it can not
pub audit_first : (m : Meaning) (ts : List ℕ) → m.allows [] ≡ true → MatchOption (audit m 1 ts) (Takes m ts) (Refuses m ts)
audit_first m ts empty = places m ts (audit m 1 ts) (said m 1 ts empty)

-- an audit that has come to place k: what is left to do on the rule as it stands is what was to be done at first
abbrev pub SoFar : Meaning → ℕ → List ℕ → Meaning → List ℕ → Type 0
SoFar m k ts m₀ ts₀ = (audit m k ts ≡ audit m₀ 1 ts₀) × (audited m ts ≡ audited m₀ ts₀)

-- what it answers in the end
pub audited_so : (m₀ : Meaning) (ts₀ : List ℕ) (answer : Option ℕ) (left : Meaning) → m₀.allows [] ≡ true → answer ≡ audit m₀ 1 ts₀ → left ≡ audited m₀ ts₀ → Audited m₀ ts₀ answer left
audited_so m₀ ts₀ answer left empty place so = record { place = place; first = rw place (audit_first m₀ ts₀ empty); struck_before = so }
