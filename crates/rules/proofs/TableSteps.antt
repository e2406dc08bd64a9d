-- A table's past: what it bars, and what an accepted stroke leaves; and a table as laid is the layer at its start.
use Rattle.std.proofs.Common.{◌≡◌, ℕ, zero, suc, ◌+◌, ◌<◌, ◌≤◌, min, max, ◌&&◌, leb, List, [], ◌∷◌, length, get_or, take, Some, sym, refl, ap, ◌∙◌, arith}
use Rattle.std.proofs.lemmas.List.{take-take}
use Rattle.std.proofs.lemmas.Bool.Decides.{nat_tests}
use Rattle.limits.specs.Limits.{table, keeps, largest, largest_sum}
use Rattle.rules.specs.Rules.{Meaning, may, struck, laid, Order}
use Rattle.rules.specs.Layers.{spaced, keep_apart, table_last, table_own, later, layered}
use Rattle.rules.proofs.TableWalks.{table_walk}
use Rattle.rules.proofs.Meanings.{same_meaning, same_and}

spaced_opens : (ds xs : List ℕ) (t : ℕ) → spaced ds xs t ≡ leb (largest_sum ds xs) t
spaced_opens [] xs t = grind (arith, nat_tests)
spaced_opens (d ∷ ds) [] t = grind (arith, nat_tests)
spaced_opens (d ∷ ds) (x ∷ xs) t = let more = spaced_opens ds xs t in grind (arith, nat_tests)

pub table_opens : (given past : List ℕ) (t : ℕ) → may (table_own given past) t ≡ leb (largest_sum given past) t
table_opens given past t = let e = spaced_opens given past t in grind arith

-- so does every other number that tells the same of it
pub table_free : (given past : List ℕ) (x t : ℕ) → ((u : ℕ) → may (table_own given past) u ≡ leb x u) → x ≤ t → largest_sum given past ≤ t
table_free given past x t opens h = let e = opens t in let f = table_opens given past t in grind (arith, nat_tests)

-- only as many strokes count as there are distances
spaced_take : (ds xs : List ℕ) (t : ℕ) → spaced ds (take (length ds) xs) t ≡ spaced ds xs t
spaced_take [] xs t = refl
spaced_take (d ∷ ds) [] t = refl
spaced_take (d ∷ ds) (x ∷ xs) t = ap (λ b. leb (x + d) t && b) (spaced_take ds xs t)

take-cons : (l t : ℕ) (xs ys : List ℕ) → take l xs ≡ take l ys → take l (t ∷ xs) ≡ take l (t ∷ ys)
take-cons zero t xs ys h = refl
take-cons (suc l) t xs ys h =
    ap {B = List ℕ} (λ r. t ∷ r) (sym (take-take l (suc l) xs (omega arith)) ∙ ap (take l) h ∙ take-take l (suc l) ys (omega arith))

keep_take : (given xs ys ts : List ℕ) → take (length given) xs ≡ take (length given) ys → keep_apart given xs ts ≡ keep_apart given ys ts
keep_take given xs ys [] h = refl
keep_take given xs ys (t ∷ ts) h =
    let e : spaced given xs t ≡ spaced given ys t = sym (spaced_take given xs t) ∙ ap (λ (l : List ℕ). spaced given l t) h ∙ spaced_take given ys t in
    rw (e, keep_take given (t ∷ xs) (t ∷ ys) ts (take-cons (length given) t xs ys h))

-- those are no later than the next
largest_take : (ds xs : List ℕ) (k t : ℕ) → k ≤ length ds → largest_sum ds xs ≤ t → largest (take k xs) ≤ t
largest_take ds xs zero t long h = omega arith
largest_take ds [] (suc k) t long h = omega arith
largest_take [] (x ∷ xs) (suc k) t long h = absurd (omega arith)
largest_take (d ∷ ds) (x ∷ xs) (suc k) t long h = let rest = largest_take ds xs k t (omega arith) (omega arith) in omega arith

pub newest_largest : (given past : List ℕ) (t : ℕ) → largest_sum given past ≤ t → largest (take (length given) (t ∷ past)) ≤ t
newest_largest [] past t h = omega arith
newest_largest (d ∷ ds) past t h = let rest = largest_take (d ∷ ds) past (length ds) t (omega arith) h in omega arith

last_now : (past : List ℕ) (t : ℕ) → largest past ≤ t → later (table_last past) (Some t) ≡ Some t
last_now [] t h = refl
last_now (x ∷ xs) t h = let e : max (largest (x ∷ xs)) t ≡ t = omega arith in rw e refl

-- an accepted stroke leaves the next past
pub table_struck : (given past past' : List ℕ) (t : ℕ) (m : Meaning) → largest_sum given past ≤ t → past' ≡ take (length given) (t ∷ past) → layered (table_own given past') (struck t m) ≡ struck t (layered (table_own given past) m)
table_struck given past past' t m h e =
    same_meaning (layered (table_own given past') (struck t m)) (struck t (layered (table_own given past) m))
    (rw e (last_now (take (length given) (t ∷ past)) t (newest_largest given past t h)))
    (λ ts.
    let same = keep_take given past' (t ∷ past) ts (rw e (take-take (length given) (length given) (t ∷ past) (omega arith))) in
    let now = spaced_opens given past t in
    grind (arith, nat_tests))

pub table_laid : (given : List ℕ) (m : Meaning) → Order m → layered (table_own given []) m ≡ laid (table given) m
table_laid given m o =
    same_meaning (layered (table_own given []) m) (laid (table given) m) refl
    (λ ts. same_and (m.allows ts) (keep_apart given [] ts) (keeps (table given) ts) (λ h. let rise = o.rising ts h in let walk = table_walk given ts rise in grind arith))

-- where one of two lists has come to its end, there is no sum
pub no_sum : (ds xs : List ℕ) → min (length ds) (length xs) ≡ 0 → largest_sum ds xs ≡ 0
no_sum [] xs e = refl
no_sum (d ∷ ds) [] e = refl
no_sum (d ∷ ds) (x ∷ xs) e = absurd (omega arith)

-- the largest of a list is no smaller than each of it
pub largest_at : (xs : List ℕ) (k : ℕ) → k < length xs → get_or xs k 0 ≤ largest xs
largest_at [] k l = absurd (omega arith)
largest_at (x ∷ xs) zero l = omega arith
largest_at (x ∷ xs) (suc k) l = let rest = largest_at xs k (omega arith) in omega arith
