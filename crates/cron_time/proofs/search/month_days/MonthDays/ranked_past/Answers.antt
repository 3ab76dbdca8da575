use Rattle.std.proofs.Common.{◌+◌, pos, sym, option_map, ◌∙◌, arith}
use Rattle.cron_moments.specs.Calendar.{rank}
use Rattle.cron_time.specs.Search.Inner.Days.{day_rank}
use Rattle.cron_time.specs.Search.Inner.MonthDays.{matches_ranked}
use Rattle.cron_time.specs.Search.Inner.Numbers.{beyond, matches_month}
use Rattle.cron_time.proofs.Searches.MonthDayLemmas.{bits_nearest, own_fails, own_found, own_out, own_reached}
use Rattle.cron_time.proofs.Searches.OnwardLemmas.{on_nearest}
use Rattle.cron_time.proofs.search.month_days.MonthDays.ranked_past.Goals as goal

pub returns-in-Some-clause-nearest : goal.returns-in-Some-clause-nearest
returns-in-Some-clause-nearest c =
    rw c.number.ensures.number (own_found c.args.way c.args.fields.now c.args.self.now.month c.args.place c.in-Some.next c.requires.bound
    c.requires.month (bits_nearest c.args.way _ _ _ _ c.requires.days (rw c.in-Some.is at c.bit_past.ensures)))

pub returns-clause-nearest : goal.returns-clause-nearest
returns-clause-nearest c =
    let s = c.args.fields.now in
    let month = c.args.self.now.month in
    let none = rw c.in_default.is at c.bit_past.ensures in
    on_nearest c.args.way 100 (matches_month s) (matches_ranked s) (beyond c.args.way (rank month (c.args.place + 1))) (pos month) month
    (option_map day_rank c.months_past.result) (record {
      positive = omega arith;
      reached = own_reached c.args.way s month c.args.place c.requires.bound c.requires.month;
      fails = own_fails c.args.way s month c.args.place c.requires.bound (λ k lies. sym (c.requires.days k) ∙ none k lies);
      out = λ n far. own_out c.args.way month c.args.place n c.requires.bound far;
    }) (rw c.number-2.ensures.number at c.months_past.ensures.nearest)
