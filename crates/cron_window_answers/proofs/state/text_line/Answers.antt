use Rattle.std.proofs.Common.{◌≡◌, ◌++◌, rules}
use Rattle.std.specs.Prelude.{codes}
use Rattle.jiff.specs.Words.{plain_zone}
use Rattle.cron_window_answers.specs.States.{since_text, state_word, until_text}
use Rattle.cron_window_answers.proofs.TextLemmas.{joined-6}
use Rattle.cron_window_answers.proofs.state.text_line.Goals as goal

pub returns : goal.returns
returns c =
    let z = plain_zone c.args.zone.now in
    let s = c.args.state.now in
    let word : c.push_bytes.new.line.items ≡ c.new-line.result.items ++ state_word c.args.state.now.value = search rules in
    let since : c.push_since.new.line.items ≡ c.push_bytes-2.new.line.items ++ since_text (plain_zone c.args.zone.now) c.args.bounds c.args.state.now.first = search rules in
    let until : c.push_until.new.line.items ≡ c.push_bytes-3.new.line.items ++ until_text (plain_zone c.args.zone.now) c.args.bounds c.args.state.now.end = search rules in
    joined-6 (state_word s.value) (codes " since ") (since_text z c.args.bounds s.first) (codes " until ") (until_text z c.args.bounds s.end) (codes "\n")
    c.new-line.result.items c.push_bytes.new.line.items c.push_bytes-2.new.line.items c.push_since.new.line.items c.push_bytes-3.new.line.items
    c.push_until.new.line.items c.push_bytes-4.new.line.items c.new-line.ensures word c.push_bytes-2.ensures.items since c.push_bytes-3.ensures.items
    until c.push_bytes-4.ensures.items
