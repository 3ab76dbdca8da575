-- The run of a joined list of calls is the joined runs.
use Rattle.std.proofs.Common.{◌≡◌, List, [], ◌∷◌, ◌++◌, map, ◌+◌, Option, Some, None, refl, ap, add-one, ◌∙◌}
use Rattle.std.proofs.lemmas.List.{map-append}
use Rattle.jiff_tz.specs.declared.timezone.TimeZone.{TimeZone}
use Rattle.cron_units.specs.declared.way.Way.{Way}
use Rattle.cron_units.specs.declared.way.Way.TheVariants.{Ahead, Back}
use Rattle.cron_time.specs.Walk.Cursor.{Cursor, Ended, Run, Walk, Step, Steps, go_to, item_at, place_before, step_on, run_on}
use Rattle.cron_moments.specs.Readings.{Reading}
use Rattle.cron_time.specs.Timeline.{timeline}
use Rattle.cron.specs.Turns.{IsPlayed, way_of}
use Rattle.cron_time.specs.Walk.Laws.{RunsAreJoined, EndIsForEver, NeighboursAreAnswered}
use Rattle.cron.specs.declared.schedule.play.Turn.{Turn}

pub answers-append : (items : List Reading) (z : TimeZone) (us vs : List Way) (c : Cursor)
    → (run_on items z (us ++ vs) c).answers ≡ (run_on items z us c).answers ++ (run_on items z vs (run_on items z us c).cursor).answers
answers-append items z [] vs c = refl
answers-append items z (u ∷ us) vs c = ap (λ xs. (step_on items z u c).answer ∷ xs) (answers-append items z us vs (step_on items z u c).cursor)

pub cursor-append : (items : List Reading) (z : TimeZone) (us vs : List Way) (c : Cursor)
    → (run_on items z (us ++ vs) c).cursor ≡ (run_on items z vs (run_on items z us c).cursor).cursor
cursor-append items z [] vs c = refl
cursor-append items z (u ∷ us) vs c = cursor-append items z us vs (step_on items z u c).cursor

-- one call more
pub played_more : (old mid new : Walk) (turns : List Turn) (t : Turn) (answers : List (Option Reading)) (r : Option Reading)
    → IsPlayed old turns answers mid → Steps (way_of t) mid r new → IsPlayed old (turns ++ t ∷ []) (answers ++ r ∷ []) new
played_more old mid new turns t answers r before s =
    let items = timeline old.sets old.zone in
    let ways : map way_of (turns ++ t ∷ []) ≡ map way_of turns ++ way_of t ∷ [] = map-append way_of turns (t ∷ []) in
    let same : step_on (timeline mid.sets mid.zone) mid.zone (way_of t) mid.cursor
    ≡ step_on items old.zone (way_of t) (run_on items old.zone (map way_of turns) old.cursor).cursor = rw (before.sets, before.zone, before.cursor)
    refl in
    record {
      answers_are = rw (ways, answers-append items old.zone (map way_of turns) (way_of t ∷ []) old.cursor, ← before.answers_are)
          (ap (λ x. answers ++ x ∷ []) (s.answer ∙ ap (λ (q : Step). q.answer) same));
      cursor = rw (ways, cursor-append items old.zone (map way_of turns) (way_of t ∷ []) old.cursor) (s.cursor ∙ ap (λ (q : Step). q.cursor) same);
      sets = s.sets ∙ before.sets;
      zone = s.zone ∙ before.zone;
    }

-- ---- laws

same_run : (r : Run) (answers : List (Option Reading)) (cursor : Cursor) → r.answers ≡ answers → r.cursor ≡ cursor
    → r ≡ record { answers = answers; cursor = cursor }
same_run r answers cursor a c = rw (← a, ← c) refl

pub runs_joined : RunsAreJoined
runs_joined items z us vs c =
    same_run (run_on items z (us ++ vs) c) _ _ (answers-append items z us vs c) (cursor-append items z us vs c)

none_answers : (items : List Reading) (z : TimeZone) (ways : List Way) → (run_on items z ways Ended).answers ≡ map (λ way. None) ways
none_answers items z [] = refl
none_answers items z (Ahead ∷ ws) = ap (λ xs. None ∷ xs) (none_answers items z ws)
none_answers items z (Back ∷ ws) = ap (λ xs. None ∷ xs) (none_answers items z ws)

stays_ended : (items : List Reading) (z : TimeZone) (ways : List Way) → (run_on items z ways Ended).cursor ≡ Ended
stays_ended items z [] = refl
stays_ended items z (Ahead ∷ ws) = stays_ended items z ws
stays_ended items z (Back ∷ ws) = stays_ended items z ws

pub ended_runs : EndIsForEver
ended_runs items z ways =
    same_run (run_on items z ways Ended) _ _ (none_answers items z ways) (stays_ended items z ways)

pub neighbours : NeighboursAreAnswered
neighbours items z i x y first second =
    let back : place_before (i + 1) ≡ Some i = ap place_before (add-one i) in
    (ap (go_to items) back ∙ ap (item_at i) first, ap (item_at (i + 1)) second)

-- walks of equal parts are equal
pub walk_is : (v w : Walk) → v.sets ≡ w.sets → v.zone ≡ w.zone → v.cursor ≡ w.cursor → v ≡ w
walk_is v w p q r =
    let e : record { sets = v.sets; zone = v.zone; cursor = v.cursor } ≡ record { sets = w.sets; zone = w.zone; cursor = w.cursor } = rw (p, q, r) refl in e
