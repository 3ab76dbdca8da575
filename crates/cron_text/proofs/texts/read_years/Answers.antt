use Rattle.std.proofs.Common.{inl, ap, arith, rules}
use Rattle.cron_units.specs.Units.{unmarked}
use Rattle.cron_text.specs.Inner.Places.{tokens_from}
use Rattle.cron_text.proofs.Places.{none_at_end, some_here}
use Rattle.cron_text.proofs.TextLemmas.{years_fault, years_left_over, years_read}
use Rattle.cron_text.proofs.texts.read_years.Goals as goal

pub returns-then-start-text-clause-years : goal.returns-then-start-text-clause-years
returns-then-start-text-clause-years c =
    inl (none_at_end c.args.text.now c.args.start.at c.args.start.spaced (omega arith), ap unmarked c.whole.ensures.members)

pub returns-in-Err-clause-refused : goal.returns-in-Err-clause-refused
returns-in-Err-clause-refused c =
    years_fault (tokens_from c.args.text.now c.args.start) _ (some_here c.args.text.now c.args.start c.requires (omega arith)) c.in-Err.ensures.refused

pub returns-then-place-text-clause-refused : goal.returns-then-place-text-clause-refused
returns-then-place-text-clause-refused c =
    years_left_over (tokens_from c.args.text.now c.args.start) (unmarked c.read_field.new.set) (tokens_from c.args.text.now c.read_field.new.place)
    (some_here c.args.text.now c.args.start c.requires (omega arith)) c.in-Ok.ensures.taken
    (some_here c.args.text.now c.read_field.new.place c.in-Ok.ensures.place (omega arith))

pub returns-clause-years : goal.returns-clause-years
returns-clause-years c =
    let last = c.read_field.new.place in
    years_read (tokens_from c.args.text.now c.args.start) (unmarked c.read_field.new.set) (tokens_from c.args.text.now last) c.in-Ok.ensures.taken
    (none_at_end c.args.text.now last.at last.spaced c.if-place-text.false)

pub returns-then-start-text-clause-refused : goal.returns-then-start-text-clause-refused
returns-then-start-text-clause-refused c = search rules

pub returns-in-Err-clause-years : goal.returns-in-Err-clause-years
returns-in-Err-clause-years c = search rules

pub returns-then-place-text-clause-years : goal.returns-then-place-text-clause-years
returns-then-place-text-clause-years c = search rules

pub returns-clause-refused : goal.returns-clause-refused
returns-clause-refused c = search rules
