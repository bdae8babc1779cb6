use Rattle.linearizer.proofs.Common.{All-contains, arith, contains_at, dequeue_return, entered_by, NEVER, refl}
use Rattle.linearizer.proofs.Common.{slice_get_read, ◌<◌}
use Rattle.linearizer.proofs.Choosing.{none_more_timed, one_more_timed, sorted_by_time}
use Rattle.linearizer.proofs.by_time.by_time.Goals as goal
use Rattle.linearizer.proofs.by_time.by_time.Goals.{then-time-lt-NEVER+in_ok-push-2, else-time-lt-NEVER}

pub loop-place-preserved : goal.loop-place-preserved
loop-place-preserved c =
    let values = c.args.values.now in
    let known = c.loop-place.invariant in
    let at = slice_get_read values _ _ _ refl (omega (arith, c.loop-place-test.true, c.len-place-end.ensures)) c.get.ensures in
    let entries = one_more_timed entered_by values c.loop-place.place c.loop-place.entries.items c.get.result known.entries at
    c.entered_by-time.result c.entered_by-time.ensures
    (All-contains (λ value. entered_by value.life < NEVER) values _ c.requires.entries (contains_at values c.loop-place.place c.get.result at)) in
    elim c.if-time-lt-NEVER.branch [
      | then-time-lt-NEVER+in_ok-push-2 w ↦
          let passed : dequeue_return c.get.result.life < NEVER = omega (arith, c.dequeue_return-time.ensures, w.if-time-lt-NEVER.true) in
          let dequeues = one_more_timed dequeue_return values c.loop-place.place c.loop-place.dequeues.items c.get.result known.dequeues at
          c.dequeue_return-time.result c.dequeue_return-time.ensures passed in
          rw w.dequeues-is (record {
            entries = rw (c.in_ok-push.ensures.items, c.new.ensures) entries;
            dequeues = rw (w.in_ok-push-2.ensures.items, w.new-then-time-lt-NEVER.ensures) dequeues;
          })
      | else-time-lt-NEVER w ↦ rw w.dequeues-is (record {
        entries = rw (c.in_ok-push.ensures.items, c.new.ensures) entries;
        dequeues = none_more_timed dequeue_return values c.loop-place.place c.loop-place.dequeues.items c.get.result known.dequeues at
            (omega (arith, c.dequeue_return-time.ensures, w.if-time-lt-NEVER.false));
      })
    ]

pub returns-clause-entries : goal.returns-clause-entries
returns-clause-entries c = sorted_by_time _ _ _ _ _
    c.loop-place.invariant.entries (omega (arith, c.loop-place-test.false, c.len-place-end.ensures))
    c.sorted.ensures.permutation c.sorted.ensures.never_falls

pub returns-clause-dequeues : goal.returns-clause-dequeues
returns-clause-dequeues c = sorted_by_time _ _ _ _ _
    c.loop-place.invariant.dequeues (omega (arith, c.loop-place-test.false, c.len-place-end.ensures))
    c.sorted-2.ensures.permutation c.sorted-2.ensures.never_falls
