use Rattle.std.proofs.Common.{◌≡◌, true, sym, ◌∙◌}
use Rattle.std.specs.List.{list_all}
use Rattle.std.proofs.lemmas.Str.{IsUtf8-from_ascii}
use Rattle.cron_tab_lines.specs.Bytes.{is_plain}
use Rattle.cron_tab_lines.proofs.EntryLemmas.{plain-ascii}
use Rattle.cron_tab_lines.proofs.entries.read_fields.Goals as goal

pub returns-in-Err : goal.returns-in-Err
returns-in-Err c =
    let plain : list_all is_plain c.args.fields.now ≡ true = sym c.are_plain.ensures ∙ c.if-not-are_plain.false in
    absurd (c.in-Err.ensures.cases.0 (IsUtf8-from_ascii c.args.fields.now (plain-ascii c.args.fields.now plain)))
