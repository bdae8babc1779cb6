-- The names that most proofs of this crate cite, passed on from one place. Declares nothing.
pub use Rattle.std.proofs.Common.{ap, append_assoc, arith, Bool, cond, drop, false, get_or, get_or-set_other}
pub use Rattle.std.proofs.Common.{get_or-set_same, inl, inr, leb-true, length, length-set, List, nat_eq, None, not}
pub use Rattle.std.proofs.Common.{Option, refl, replicate, rules, set, Some, subst, suc, sym, take, true, zero, [], ℕ}
pub use Rattle.std.proofs.Common.{◌++◌, ◌+◌, ◌-◌, ◌||◌, ◌↔◌, ◌∙◌, ◌∷◌, ◌≡◌, ◌≢◌, ◌⊎◌}
pub use Rattle.std.proofs.Math.Bool.{or_comm}
pub use Rattle.std.proofs.Math.Seq.{drop-append_seam, get_or-append_seam, split_at, take-append_seam, take-suc}
pub use Rattle.std.proofs.lemmas.Bool.{cases_Bool, cases_eq, cases_lt, cases_order, eq-eqb, eqb-true}
pub use Rattle.std.proofs.lemmas.Bool.{false_from_ne_true, false≢true, le-ltb, lt-ltb, ltb-false, ltb-true, or_cases}
pub use Rattle.std.proofs.lemmas.Bool.Decides.{eqb_tells, nat_tests}
pub use Rattle.std.proofs.lemmas.Grind.{common_steps}
pub use Rattle.std.proofs.lemmas.List.{append-nil, append_cancel_left, get_or-append-add, get_or-drop, get_or-map}
pub use Rattle.std.proofs.lemmas.List.{get_or-take, get_or_append_left, get_or_default, get_or_past, length-map}
pub use Rattle.std.proofs.lemmas.List.{length-replicate, length-take, map-append, map-set}
pub use Rattle.std.proofs.lemmas.List.{set-append_right, set-get_or, take-append-le, take_all, take_more}
pub use Rattle.std.proofs.lemmas.List.Elements.{All-append, All-cons, All-contains, All-filter, All-head, All-map}
pub use Rattle.std.proofs.lemmas.List.Elements.{All-nil, All-push, All-tail, Contains-append_right, Contains-get_or}
pub use Rattle.std.proofs.lemmas.List.Elements.{filter-append, filter_map-append}
pub use Rattle.std.proofs.lemmas.List.Folds.{Any-from_list_any, find-append, find_at, flat_map-map, list_any-append}
pub use Rattle.std.proofs.lemmas.List.Folds.{list_any_at, map_fixed}
pub use Rattle.std.proofs.lemmas.List.Kept.{AllPairs-cons, AllPairs-filter}
pub use Rattle.std.proofs.lemmas.List.Quantifiers.{all_pairs_push, position-Some}
pub use Rattle.std.proofs.lemmas.List.Recursion.{is_sum_by}
pub use Rattle.std.proofs.lemmas.List.Sorted.{All-permutation, answers_always, Contains-permutation}
pub use Rattle.std.proofs.lemmas.List.Sorted.{IsPermutation-cons, IsPermutation-map, IsPermutation-refl}
pub use Rattle.std.proofs.lemmas.List.Sorted.{IsPermutation-remove, IsPermutation-sym, IsPermutation-trans}
pub use Rattle.std.proofs.lemmas.List.Sorted.{length_permutation, sum_by-IsPermutation}
pub use Rattle.std.proofs.lemmas.List.Sums.{sum_by-cons}
pub use Rattle.std.proofs.lemmas.Option.{get_or_from_slice_get, gets, MatchOption-at_none, MatchOption-at_some}
pub use Rattle.std.proofs.lemmas.Option.{option_and_then_some, same_Some, slice_get-get_or, slice_get-map}
pub use Rattle.std.proofs.lemmas.Option.{slice_get_read, slice_get_within, some_pair_parts}
pub use Rattle.std.specs.BTreeSet.{contains}
pub use Rattle.std.specs.Bool.{then_some}
pub use Rattle.std.specs.Iterator.{item_count, MakesProgress}
pub use Rattle.std.specs.List.{cons_option, filter_map, last_or, list_any, position_or_len, remove}
pub use Rattle.std.specs.List.Sorted.{IsNonDecreasingBy, IsPartitionPoint}
pub use Rattle.std.specs.Option.{option_map_or}
pub use Rattle.std.specs.Ordering.{is_eq, nat_cmp}
pub use Rattle.std.specs.Prelude.{All, AllPairs, Contains, count_by, Err, filter, find, flat_map, IfErr, IfOk, IfSome}
pub use Rattle.std.specs.Prelude.{is_none, is_some, IsPermutation, map, MatchOption, MatchResult, Ok, OnErr}
pub use Rattle.std.specs.Prelude.{OnOk, option_and_then, option_map, Result, slice_get, sum_by, ⊤, ◌&&◌, ◌≤◌}
pub use Rattle.std.specs.Result.{IsErrAnd, result_err}
pub use lib.Dec.{ltb}
pub use Rattle.event_records.specs.Projection.{projection}
pub use Rattle.event_records.specs.Turns.{answers, is_call, TakesTurns, TicketsRise}
pub use Rattle.event_records.specs.declared.event.Event.{Event}
pub use Rattle.event_records.specs.declared.event.What.{What}
pub use Rattle.event_records.specs.declared.event.What.TheVariants.{CallEnq, RetEmpty, RetEnq}
pub use Rattle.event_records.specs.declared.limits.TheConstants.{MAX_EVENTS, MAX_INITIAL, MAX_THREAD, MAX_THREADS}
pub use Rattle.event_records.specs.declared.limits.TheConstants.{MAX_TICKET, MAX_TIME, ORIGIN}
pub use Rattle.history_merge.specs.Clashes.{AreFirstWith, Explains, fault_of, IsClash, Stands}
pub use Rattle.history_merge.specs.Complete.{AreApart, AreComplete, AreDistinct, called_value, called_values}
pub use Rattle.history_merge.specs.Complete.{IsCompleteHistory, IsTimed}
pub use Rattle.history_merge.specs.Events.{call_event, called_by, events_of, maybe_return, put_by_ticket, put_each}
pub use Rattle.history_merge.specs.Events.{put_maybe}
pub use Rattle.history_merge.specs.Faults.{answers_pending, breaks_ticket_order, calls_initial, fault_at, is_initial}
pub use Rattle.history_merge.specs.Faults.{IsFirstFault, IsFirstFaultAt, IsFirstTwice, IsLeastPending, NoFaultBefore}
pub use Rattle.history_merge.specs.Faults.{pending_call, repeats_value, was_called}
pub use Rattle.history_merge.specs.Forming.{answered, begun, operation_so_far, operations_so_far, waiting}
pub use Rattle.history_merge.specs.Gathering.{HasFormed, HasGathered, HasMetFault, HasRefusedInitial, is_among}
pub use Rattle.history_merge.specs.Gathering.{IsForming, Knows, name_in}
pub use Rattle.history_merge.specs.Initial.{Contents, enqueue_at, enqueues_from, initial_enqueues}
pub use Rattle.history_merge.specs.Initial.{IsCompleteFrom, later_by}
pub use Rattle.history_merge.specs.Inner.Clashes.{IsSought}
pub use Rattle.history_merge.specs.Inner.Forming.{AreCalledIn, FitsTurn, is_called_in, IsFormedOf, IsLeastPendingCall}
pub use Rattle.history_merge.specs.Inner.Forming.{NothingPending}
pub use Rattle.history_merge.specs.Inner.History.{AreInTurn, AreLeft, comes_by_ticket, due_in, FollowsInTurn}
pub use Rattle.history_merge.specs.Inner.History.{IsFirstDue, IsKept, IsRunOf, next_of}
pub use Rattle.history_merge.specs.Inner.Timeline.{earlier_by, IsTimeline, operations_on, timeline}
pub use Rattle.history_merge.specs.Legal.{IsLegalOrder, IsLinearizable}
pub use Rattle.history_merge.specs.Operations.{Did, enqueued_value, kind_of, operation_of, operations_of, Precedes}
pub use Rattle.history_merge.specs.Queue.{accept, accept_all, IsAccepted}
pub use Rattle.history_merge.specs.declared.called.CalledValues.{CalledValues}
pub use Rattle.history_merge.specs.declared.called.TheConstants.{LOOSE}
pub use Rattle.history_merge.specs.declared.clash.Clash.{Clash}
pub use Rattle.history_merge.specs.declared.clash.Placed.{Placed}
pub use Rattle.history_merge.specs.declared.clash.Sought.{Sought}
pub use Rattle.history_merge.specs.declared.fault.HistoryFault.{HistoryFault}
pub use Rattle.history_merge.specs.declared.fault.HistoryFault.TheVariants.{BadThread, CallWhilePending}
pub use Rattle.history_merge.specs.declared.fault.HistoryFault.TheVariants.{DuplicateValue, InitialTwice, Memory}
pub use Rattle.history_merge.specs.declared.fault.HistoryFault.TheVariants.{Pending, ReturnWithoutCall, TicketOrder}
pub use Rattle.history_merge.specs.declared.fault.HistoryFault.TheVariants.{WrongReturn}
pub use Rattle.history_merge.specs.declared.forming.Forming.{Forming}
pub use Rattle.history_merge.specs.declared.gathering.Gathering.{Gathering}
pub use Rattle.history_merge.specs.declared.operation.OpKind.{OpKind}
pub use Rattle.history_merge.specs.declared.operation.OpKind.TheVariants.{Dequeue, DequeueEmpty, Enqueue}
pub use Rattle.history_merge.specs.declared.operation.OpKind.TheVariants.{EnqueueFailed}
pub use Rattle.history_merge.specs.declared.operation.Operation.{Operation}
