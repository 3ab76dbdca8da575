-- Lines elapse exactly when a due fire comes whose time the clock shows.
use Rattle.std.proofs.Common.{◌≡◌, ◌<◌, ℕ, ℤ, pos, ◌-ℤ◌, ◌≤ℤ◌, ◌<ℤ◌, Bool, true, List, refl, sym, ap, ◌∙◌, arith}
use Rattle.std.specs.Prelude.{◌↔◌}
use Rattle.std.specs.List.{list_any}
use Rattle.jiff_core.proofs.SignedLemmas.{signed_arith}
use Rattle.jiff_tz.specs.declared.timezone.TimeZone.{TimeZone}
use Rattle.cron_moments.specs.Civil.{civil, seconds_in_range}
use Rattle.cron_units.specs.Sets.{Sets}
use Rattle.cron_dues.specs.Clock.Due.{Due, IsDueAt, clock_of, due, due_instant, instant, shows}
use Rattle.cron_dues.proofs.DueLemmas.{as_natural, due_is, due_once, fire_due}
use Rattle.cron_dues.proofs.MemberLemmas.{due-of, own-of, sets-match}
use Rattle.cron_seconds.proofs.SetLemmas.{passes_in, passes_of, range_of}
use Rattle.cron_unions.specs.Nearest.{is_match_any}
use Rattle.cron_unions.specs.Unions.{matches_any, any_of}
use Rattle.cron_time.specs.Seconds.{matching_seconds}
use Rattle.cron_oncalendar.specs.Calendars.{line_matches}
use Rattle.cron_oncalendar.specs.Elapses.{ElapsesAt, IsShownAt}

module _ (ss : List Sets) (lines : List (List ℕ)) (same : (c : ℕ) → c < seconds_in_range → list_any (line_matches (civil c)) lines ≡ matches_any ss (civil c)) where
  due_then : (z : TimeZone) (n : ℤ) → ElapsesAt lines z n → IsShownAt ss z n
  due_then z n e =
      let c = e.second in
      let match : is_match_any ss c ≡ true = passes_in c (matches_any ss (civil c)) e.within (sym (same c e.within) ∙ e.matching) in
      let first : IsDueAt (clock_of z) c n = record { reached = omega (arith, signed_arith, e.shown); first = e.first } in
      let at : due_instant (clock_of z) c ≡ n = due_once (clock_of z) c _ n (due_is (clock_of z) c) first in
      let there : shows (clock_of z) (due_instant (clock_of z) c) ≡ pos c = rw at e.shown in
      let past = as_natural (shows (clock_of z) (due_instant (clock_of z) c) -ℤ pos c) (omega (arith, signed_arith, there)) in
      record {
        fire = due (clock_of z) c;
        among = due-of (matching_seconds (any_of ss)) (is_match_any ss) (clock_of z) (sets-match (any_of ss)) c match;
        shown = omega (arith, signed_arith, past, there);
        then = fire_due (clock_of z) c ∙ at;
      }

  elapses_then : (z : TimeZone) (n : ℤ) → IsShownAt ss z n → ElapsesAt lines z n
  elapses_then z n h =
      let c = h.fire.second in
      let own = own-of (matching_seconds (any_of ss)) (is_match_any ss) (clock_of z) (sets-match (any_of ss)) h.fire h.among in
      let within = range_of c (matches_any ss (civil c)) own.matching in
      let at : due_instant (clock_of z) c ≡ n = sym (fire_due (clock_of z) c) ∙ (ap instant (sym own.own) ∙ h.then) in
      let none : (due (clock_of z) c).past ≡ 0 = ap (λ (d : Due). d.past) (sym own.own) ∙ h.shown in
      let is = due_is (clock_of z) c in
      let past = as_natural (shows (clock_of z) (due_instant (clock_of z) c) -ℤ pos c) (omega (arith, signed_arith, is.reached)) in
      let there : shows (clock_of z) (due_instant (clock_of z) c) ≡ pos c = omega (arith, signed_arith, past, none) in
      record {
        second = c;
        within = within;
        matching = same c within ∙ passes_of c (matches_any ss (civil c)) own.matching;
        shown = rw (sym at) there;
        first = λ m less. is.first m (omega (arith, signed_arith, at, less));
      }

  pub elapses_when_due : (z : TimeZone) (n : ℤ) → ElapsesAt lines z n ↔ IsShownAt ss z n
  elapses_when_due z n = (due_then z n, elapses_then z n)
