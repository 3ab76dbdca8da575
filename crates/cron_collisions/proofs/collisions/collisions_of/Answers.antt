use Rattle.std.proofs.Common.{◌≡◌, ◌+◌, pos, ◌+ℤ◌, get_or, sym, subst, arith, rules, SFits, w64}
use Rattle.std.proofs.lemmas.Int.{to_z-of_z}
use Rattle.cron_collisions.proofs.FirstLemmas.{IsFirstSoFar, begun-later, collide-first, ended-later, first-stays, none-was, none-yet, pairs-fit, pairs-more}
use Rattle.cron_collisions.proofs.BelowLemmas.{colliding}
use Rattle.cron_collisions.specs.Collisions.{CollideFirst, collide}
use Rattle.cron_collisions.specs.Inner.Below.{before, below}
use Rattle.std.specs.List.{count_by}
use Rattle.cron_collisions.proofs.collisions.collisions_of.Goals.{then-is_none+then-here-gt0, else-is_none, else-is_none-via-then-is_none+else-here-gt0, else-is_none-via-else-is_none}
use Rattle.cron_collisions.proofs.collisions.collisions_of.Goals as goal

pub window_of-window-requires-clause-ended : goal.window_of-window-requires-clause-ended
window_of-window-requires-clause-ended c =
    let number : SFits w64 (get_or c.args.first.now c.loop-place.place (pos 0)) = search rules in
    simp to_z-of_z (c.loop-place.invariant.ended c.loop-place.place (pos 0) (omega arith) c.loop-place-test.true)

pub window_of-window-requires-clause-begun : goal.window_of-window-requires-clause-begun
window_of-window-requires-clause-begun c =
    let number : SFits w64 (get_or c.args.first.now c.loop-place.place (pos 0)) = search rules in
    simp to_z-of_z (c.loop-place.invariant.begun c.loop-place.place (pos 0) (omega arith) c.loop-place-test.true)

pub loop-place-preserved : goal.loop-place-preserved
loop-place-preserved c =
    let d = c.args.length in
    let ss = c.args.first.now in
    let ts = c.args.second.now in
    let i = c.loop-place.place in
    let number : SFits w64 (get_or ss i (pos 0)) = search rules in
    let ended : c.window_of-window.result.ended ≡ below (before d (get_or ss i (pos 0))) ts = simp to_z-of_z at c.window_of-window.ensures.ended in
    let begun : c.window_of-window.result.begun ≡ below (get_or ss i (pos 0) +ℤ pos d) ts = simp to_z-of_z at c.window_of-window.ensures.begun in
    let here : c.saturating_sub-here.result ≡ count_by (collide d (get_or ss i (pos 0))) ts = omega (arith, c.saturating_sub-here.ensures, colliding d (get_or ss i (pos 0)) ts) in
    let more = pairs-more d ss ts i c.loop-place-test.true in
    let old = c.loop-place.invariant in
    record {
      count = omega (arith, old.count);
      fits = omega (arith, old.fits, pairs-fit d (get_or ss i (pos 0)) ts);
      found =
          elim c.if-is_none.branch [
            | then-is_none+then-here-gt0 w ↦
                let none = none-was d ss ts i c.loop-place.found c.is_none.result c.is_none.ensures w.if-is_none.true old.found in
                let first : CollideFirst d ss ts i c.window_of-window.result.ended =
                rw ended (collide-first d ss ts i c.requires.first c.requires.second c.loop-place-test.true none (omega (arith, w.if-here-gt0.true, c.saturating_sub-here.ensures))) in
                subst (IsFirstSoFar d ss ts (i + 1)) (sym w.found-is) first
            | else-is_none w ↦
                subst (IsFirstSoFar d ss ts (i + 1)) (sym w.found-is)
                (elim w.else-is_none.branch [
                  | else-is_none-via-then-is_none+else-here-gt0 v ↦
                      let none = none-was d ss ts i c.loop-place.found c.is_none.result c.is_none.ensures v.if-is_none.true old.found in
                      none-yet d ss ts i c.loop-place.found c.is_none.result c.is_none.ensures v.if-is_none.true (omega (arith, v.if-here-gt0.false))
                  | else-is_none-via-else-is_none v ↦ first-stays d ss ts i c.loop-place.found c.is_none.result c.is_none.ensures v.if-is_none.false old.found
                ])
          ];
      ended = λ k x le short. rw ended (ended-later d ss ts i k x c.requires.first (omega arith) short);
      begun = λ k x le short. rw begun (begun-later d ss ts i k x c.requires.first (omega arith) short);
    }
