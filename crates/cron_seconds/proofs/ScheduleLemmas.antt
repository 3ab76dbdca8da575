-- Which civil seconds can't match a schedule.
use Rattle.std.proofs.Common.{◌≡◌, ℕ, ◌<◌, ◌≤◌, ◌/◌, ◌%◌, pos, Bool, true, false, ◌&&◌, Option, Some, None, refl, ap, ◌∙◌, arith, nat_lt}
use Rattle.std.specs.Option.{IfSome}
use Rattle.jiff_core.proofs.SignedLemmas.{signed_arith}
use Rattle.cron_units.specs.declared.way.Way.TheVariants.{Ahead}
use Rattle.cron_units.specs.Nearest.{IsNearest}
use Rattle.cron_units.specs.Sets.{Sets}
use Rattle.cron_units.specs.Units.{contains}
use Rattle.cron_moments.specs.Civil.{civil, seconds_in_range}
use Rattle.cron_moments.specs.CivilDates.{date_numbered}
use Rattle.cron_time.specs.Matches.{is_match, matches, matches_date}
use Rattle.cron_time.specs.Search.Inner.Numbers.{matches_rest}
use Rattle.cron_time.proofs.Searches.StandLemmas.{matches_at}

-- a civil second whose hour isn't in its set doesn't match
no_hour : (s : Sets) (k : ℕ) → contains s.hours (k % 86_400 / 3600) ≡ false → is_match s k ≡ false
no_hour s k out =
    ap (λ b. nat_lt k seconds_in_range && b) (matches_at s k)
    ∙ ap (λ b. nat_lt k seconds_in_range && (matches_date s (date_numbered (k / 86_400)).0 && (b && matches_rest s (k % 86_400 % 3600)))) out
    ∙ and_false (nat_lt k seconds_in_range) (matches_date s (date_numbered (k / 86_400)).0)
  where
    and_false : (a b : Bool) → (a && (b && false)) ≡ false
    and_false true true = refl
    and_false true false = refl
    and_false false b = refl

-- of a day no civil second matches from the hour of one to the hour of another, if none of these lies in its set
pub no_hour_between : (s : Sets) (first last : ℕ) (next : Option ℕ) → first / 86_400 ≡ last / 86_400
    → IsNearest Ahead (contains s.hours) (pos (first % 86_400 / 3600)) next → IfSome next (λ h. last % 86_400 / 3600 < h)
    → (k : ℕ) → first ≤ k → k < last → is_match s k ≡ false
no_hour_between s first last None day none more k from to = no_hour s k (none (k % 86_400 / 3600) (omega (arith, signed_arith)))
no_hour_between s first last (Some h) day near more k from to = no_hour s k (near.nearest (k % 86_400 / 3600) (omega (arith, signed_arith)) (omega arith))
