-- Every list of calls on a fresh frame is governed.
use Rattle.std.proofs.Common.{◌≡◌, ℕ, ◌+◌, List, [], ◌++◌, length, take as first, Some, None, Ok, Option, refl, ap, ◌∙◌, arith, length-append}
use Rattle.frames.specs.Bells.{Bell, Bells, Fresh, Ruled, answer_of, answered, answers, leaves}
use Rattle.frames.specs.Runs.{so_far, asked_of, granted, handed, held, last_due, ReachesBack, Governed}
use Rattle.frames.specs.declared.call.Action.TheVariants.{Gap, Waiting}
use Rattle.frames.specs.declared.call.Call.{Call}
use Rattle.frames.specs.declared.call.Reply.TheVariants.{Since, Waits}
use Rattle.frames.proofs.OneBell.{kept, dialogue_is, leaves_is, first_run}
use Rattle.frames.proofs.Piles.{same_frame}
use Rattle.frames.proofs.Soonest.{Soon, soonest_run}
use Rattle.frames.proofs.Queues.{queued_run}
use Rattle.frames.proofs.Gaps.{Dated, dated_run, reaches_back}

-- what a call for those that wait would answer is how many are held
waits_held : (o : Option Bell) (w : ℕ) → answer_of o Waiting ≡ Ok (Waits w) → length (held o) ≡ w
waits_held o w e = grind arith

module _ (f : Bells) (fr : Fresh f) (cs : List Call) where
  none_held : (n : ℕ) (o : Option Bell) → f n ≡ o → held o ≡ []
  none_held n o e = grind (arith, fr n)

  none_dated : (n : ℕ) (o : Option Bell) → f n ≡ o → Dated o None
  none_dated n o e = grind (arith, fr n)

  -- the granted strokes are those handed out, and then those that wait, in order
  pub queued_so_far : (k n : ℕ) → granted (so_far k n cs (answers f cs)) ≡ handed (so_far k n cs (answers f cs)) ++ held (leaves f (first k cs) n)
  queued_so_far k n = rw (first_run k n f cs, leaves_is f n (first k cs)) (rw (none_held n (f n) refl) at (queued_run (f n) (asked_of n (first k cs))))

  balanced_so_far : (k n w : ℕ) → answered (leaves f (first k cs)) n Waiting ≡ Ok (Waits w) → length (granted (so_far k n cs (answers f cs))) ≡ length (handed (so_far k n cs (answers f cs))) + w
  balanced_so_far k n w e = ap length (queued_so_far k n) ∙ rw (length-append, waits_held (leaves f (first k cs) n) w e) refl

  unclipped_so_far : (k n t : ℕ) (g : Option ℕ) → answered (leaves f (first k cs)) n (Gap t) ≡ Ok (Since g) → ReachesBack t (last_due None (handed (so_far k n cs (answers f cs)))) g
  unclipped_so_far k n t g e =
      let xs = asked_of n (first k cs) in
      rw (first_run k n f cs) (reaches_back (kept (f n) xs) t _ g (dated_run (f n) xs None (none_dated n (f n) refl)) (rw (leaves_is f n (first k cs)) at e))

  soonest_so_far : Ruled f → (k n : ℕ) (b : Bell) → f n ≡ Some b → Soon b.rule (granted (so_far k n cs (answers f cs)))
  soonest_so_far law k n b e = rw (first_run k n f cs, e) (soonest_run b.rule (law n b e).0 (law n b e).1 b refl (asked_of n (first k cs)))

pub governed : (f : Bells) → Fresh f → Ruled f → (cs : List Call) → Governed f cs (answers f cs) (leaves f cs)
governed f fr law cs = record {
  answering = refl;
  leaving = refl;
  soonest = soonest_so_far f fr cs law;
  queued = queued_so_far f fr cs;
  balanced = balanced_so_far f fr cs;
  unclipped = unclipped_so_far f fr cs;
  rehung = λ g r. ap (λ (h : Bells). answers h cs) (same_frame f g r);
  rearranged = λ ds r n. (rw (dialogue_is f n ds, dialogue_is f n cs, r n) refl, rw (leaves_is f n ds, leaves_is f n cs, r n) refl);
}
