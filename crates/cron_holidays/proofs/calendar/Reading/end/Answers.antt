use Rattle.std.proofs.Common.{◌≡◌, true, false, sym, ◌∙◌, ap, length, map, [], ◌∷◌, ◌++◌, arith}
use Rattle.std.proofs.lemmas.List.{length-map}
use Rattle.cron_holidays.specs.Calendars.{is_event}
use Rattle.cron_holidays.specs.Properties.{is_word}
use Rattle.cron_holidays.specs.Views.{open_view, reading_view}
use Rattle.cron_holidays.proofs.CalendarLemmas.{ends-other, innermost-last, outer-last}
use Rattle.cron_holidays.proofs.calendar.Reading.end.Goals as goal

pub returns-then-not-is_event : goal.returns-then-not-is_event
returns-then-not-is_event c =
    let old = c.args.self.now in
    let ones = old.open_ones.items in
    let one = c.in-Some.one in
    let name = c.args.name.now in
    let shorter : ones ≡ c.pop.new.self.items ++ one ∷ [] = c.in-Some.ensures.items in
    let same : is_word name one.name.items ≡ true = ap (is_word name) (sym c.deref.ensures.value) ∙ (sym c.is_word.ensures ∙ c.if-not-is_word.false) in
    let size = length-map ones open_view in
    let depth : length (map open_view ones) ≡ c.len-depth.result = omega (arith, size, old.open_ones.ok.0) in
    let kept : is_event c.len-depth.result one.name.items ≡ false = ap (is_event c.len-depth.result) (sym c.deref-2.ensures.value) ∙ (sym c.is_event.ensures ∙ c.if-not-is_event.true) in
    let other : is_event (length (map open_view ones)) one.name.items ≡ false = ap (λ n. is_event n one.name.items) depth ∙ kept in
    ends-other (reading_view old) (open_view one) (map open_view c.pop.new.self.items) c.args.line name (innermost-last ones c.pop.new.self.items one shorter)
    (outer-last ones c.pop.new.self.items one shorter) same other
