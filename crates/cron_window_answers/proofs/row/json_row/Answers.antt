use Rattle.std.proofs.Common.{◌≡◌, ◌-ℤ◌, ◌++◌, rules}
use Rattle.std.specs.Prelude.{codes}
use Rattle.std.specs.Fmt.{signed_decimal}
use Rattle.jiff.specs.Words.{plain_zone}
use Rattle.cron_window_answers.specs.Texts.{instant_text}
use Rattle.cron_window_answers.proofs.TextLemmas.{joined-7}
use Rattle.cron_window_answers.proofs.row.json_row.Goals as goal

pub returns : goal.returns
returns c =
    let opens : c.push_instant.new.line.items ≡ c.push_bytes.new.line.items ++ instant_text (plain_zone c.args.zone.now) c.args.window.now.first = search rules in
    let closes : c.push_instant-2.new.line.items ≡ c.push_bytes-2.new.line.items ++ instant_text (plain_zone c.args.zone.now) c.args.window.now.end = search rules in
    let number : c.push_number.new.line.items ≡ c.push_bytes-3.new.line.items ++ signed_decimal (c.args.window.now.end -ℤ c.args.window.now.first) = search rules in
    joined-7 (codes "{\"opens\":\"") (instant_text (plain_zone c.args.zone.now) c.args.window.now.first) (codes "\",\"closes\":\"")
    (instant_text (plain_zone c.args.zone.now) c.args.window.now.end) (codes "\",\"seconds\":") (signed_decimal (c.args.window.now.end -ℤ c.args.window.now.first))
    (codes "}\n") c.new-object.result.items c.push_bytes.new.line.items c.push_instant.new.line.items c.push_bytes-2.new.line.items
    c.push_instant-2.new.line.items c.push_bytes-3.new.line.items c.push_number.new.line.items c.push_bytes-4.new.line.items c.new-object.ensures
    c.push_bytes.ensures.items opens c.push_bytes-2.ensures.items closes c.push_bytes-3.ensures.items number c.push_bytes-4.ensures.items
