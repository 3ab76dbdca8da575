use Rattle.std.proofs.Common.{◌≡◌, ◌/◌, ◌+◌, ◌*◌, ◌%◌, ℕ, pos, true, None, option_map, sym, subst, arith}
use Rattle.cron_moments.specs.CivilDates.{date_numbered}
use Rattle.cron_time.specs.Search.Inner.Blocks.{Enters}
use Rattle.cron_time.specs.Search.Inner.DaySearch.{FindsInDay}
use Rattle.cron_time.specs.Search.Inner.Days.{number_of}
use Rattle.cron_moments.specs.Found.{found_items}
use Rattle.cron_time.specs.Matches.{matches_date}
use Rattle.cron_time.proofs.Searches.AskedLemmas.{dated}
use Rattle.cron_time.proofs.Searches.CarryLemmas.{start_parts}
use Rattle.cron_time.proofs.Searches.DayLemmas.{day_fits, number_of_rank, is_candidate_rank}
use Rattle.cron_time.proofs.Searches.DaySearchLemmas.{date_fails, date_passes, day_silent, day_unasked, day_finds, day_asked}
use Rattle.cron_time.proofs.Searches.TallyLemmas.{adds_none, adds_as}
use Rattle.cron_time.proofs.search.search_day.Goals as goal

pub matching_day-requires-clause-day : goal.matching_day-requires-clause-day
matching_day-requires-clause-day c = (c.requires.range.2, day_fits c.args.inquiry.now.sets c.args.day c.requires.range c.requires.candidate)

pub returns-in_err-number-clause-found : goal.returns-in_err-number-clause-found
returns-in_err-number-clause-found c =
    rw c.from_residual.ensures (day_silent _ c.args.inquiry.now.sets _ _ _
    (date_fails c.args.inquiry.now.sets (number_of c.args.day) c.in_err-number.ensures.matches))

pub returns-in_err-number-clause-conversions : goal.returns-in_err-number-clause-conversions
returns-in_err-number-clause-conversions c =
    let asked = dated _ _ c.matching_day.ensures.counted in
    rw c.from_residual.ensures (adds_none _ _ _ _ asked.conversions
    (day_unasked _ c.args.inquiry.now.sets _ _ None (date_fails c.args.inquiry.now.sets (number_of c.args.day) c.in_err-number.ensures.matches)))

pub search_times-requires-clause-in_range : goal.search_times-requires-clause-in_range
search_times-requires-clause-in_range c =
    let n = number_of_rank c.args.inquiry.now.sets c.args.day c.requires.range c.requires.candidate in
    omega (arith, n.in_range, c.in_ok-number.ensures.matches.0)

pub search_times-requires-clause-matching : goal.search_times-requires-clause-matching
search_times-requires-clause-matching c =
    let s = c.args.inquiry.now.sets in
    let asked = dated _ _ c.matching_day.ensures.counted in
    let date = date_passes s (number_of c.args.day) (is_candidate_rank s c.args.day c.requires.range c.requires.candidate) c.in_ok-number.ensures.matches.1 in
    let P : ℕ → Type 0 = λ n. matches_date s (date_numbered n).0 ≡ true in
    rw asked.same.sets (subst P (sym c.in_ok-number.ensures.matches.0) date)

pub returns-clause-found : goal.returns-clause-found
returns-clause-found c =
    let asked = dated _ _ c.matching_day.ensures.counted in
    let same = c.in_ok-number.ensures.matches.0 in
    let s = c.args.inquiry.now.sets in
    let z = c.args.inquiry.now.zone in
    let o = option_map found_items c.search_times.result in
    let E : ℕ → Type 0 = λ n. Enters c.args.way 86_400 (pos (c.args.start / 86_400 * 86_400 + c.args.start % 86_400)) n c.entry-from.result in
    let F : ℕ → Type 0 = λ n. FindsInDay c.args.way s z n c.entry-from.result o in
    let found = rw (asked.same.sets, asked.same.zone) at c.search_times.ensures.found in
    day_finds c.args.way s z (pos c.args.start) (number_of c.args.day) c.entry-from.result o
    (start_parts 86_400 c.args.start (λ p. Enters c.args.way 86_400 p (number_of c.args.day) c.entry-from.result)
    (subst E same c.entry-from.ensures.enters)) (subst F same found)

pub returns-clause-conversions : goal.returns-clause-conversions
returns-clause-conversions c =
    let asked = dated _ _ c.matching_day.ensures.counted in
    let same = c.in_ok-number.ensures.matches.0 in
    let s = c.args.inquiry.now.sets in
    let z = c.args.inquiry.now.zone in
    let n = number_of_rank s c.args.day c.requires.range c.requires.candidate in
    let date = date_passes s (number_of c.args.day) (is_candidate_rank s c.args.day c.requires.range c.requires.candidate) c.in_ok-number.ensures.matches.1 in
    let o = option_map found_items c.search_times.result in
    let E : ℕ → Type 0 = λ n. Enters c.args.way 86_400 (pos (c.args.start / 86_400 * 86_400 + c.args.start % 86_400)) n c.entry-from.result in
    let F : ℕ → Type 0 = λ n. FindsInDay c.args.way s z n c.entry-from.result o in
    let found = rw (asked.same.sets, asked.same.zone) at c.search_times.ensures.found in
    let times = rw asked.same.sets at c.search_times.ensures.conversions in
    adds_as _ _ _ _ _ _ _ times asked.conversions
    (day_asked c.args.way s z (pos c.args.start) (number_of c.args.day) c.entry-from.result times.count c.search_times.result n.in_range date
    (start_parts 86_400 c.args.start (λ p. Enters c.args.way 86_400 p (number_of c.args.day) c.entry-from.result)
    (subst E same c.entry-from.ensures.enters)) (subst F same found) times.tally)
