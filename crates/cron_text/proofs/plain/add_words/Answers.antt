use Rattle.std.proofs.Common.{refl}
use Rattle.cron_text.specs.Fields.{name, plain, name_range}
use Rattle.cron_text.specs.Tokens.{word}
use Rattle.cron_text.proofs.PlainItems.{item_alone, item_names}
use Rattle.cron_text.proofs.plain.add_words.Goals as goal

pub returns-then-add_name : goal.returns-then-add_name
returns-then-add_name g c =
    let u = g.T.TimeUnitField.unit in
    let text = c.args.text.now in
    let first = c.in_ok-first.ensures in
    record {
      item = name first.name;
      is = item_alone u text c.args.at (word first.name) c.in_ok-first.end (name first.name) first.symbol refl;
      adds = c.if-add_name.ensures refl first.name first.letters first.keyed;
    }

pub returns-then-add_names : goal.returns-then-add_names
returns-then-add_names g c =
    let u = g.T.TimeUnitField.unit in
    let text = c.args.text.now in
    let first = c.in_ok-first.ensures in
    let last = c.in_ok-last.ensures in
    let dash = c.if-not-stands.ensures refl in
    let lone = item_alone u text c.args.at (word first.name) c.in_ok-first.end (name first.name) first.symbol refl in
    record {
      item = plain (name_range first.name last.name);
      is = item_names u text c.args.at c.in_ok-first.end c.in_ok-last.end first.name last.name lone
          (record { within = dash.0; stands = dash.1; token = last.symbol });
      adds = c.if-add_names.ensures refl first.name last.name first.letters last.letters first.keyed last.keyed;
    }
