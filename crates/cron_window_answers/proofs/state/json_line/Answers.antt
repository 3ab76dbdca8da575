use Rattle.std.proofs.Common.{◌≡◌, ◌++◌, rules}
use Rattle.std.specs.Prelude.{codes}
use Rattle.jiff.specs.Words.{plain_zone}
use Rattle.cron_window_answers.specs.States.{bool_word, edge_text}
use Rattle.cron_window_answers.proofs.TextLemmas.{joined-7}
use Rattle.cron_window_answers.proofs.state.json_line.Goals as goal

pub returns : goal.returns
returns c =
    let z = plain_zone c.args.zone.now in
    let s = c.args.state.now in
    let word : c.push_bytes-2.new.line.items ≡ c.push_bytes.new.line.items ++ bool_word c.args.state.now.value = search rules in
    let since : c.push_edge.new.line.items ≡ c.push_bytes-3.new.line.items ++ edge_text (plain_zone c.args.zone.now) c.args.bounds.from c.args.state.now.first = search rules in
    let until : c.push_edge-2.new.line.items ≡ c.push_bytes-4.new.line.items ++ edge_text (plain_zone c.args.zone.now) c.args.bounds.to c.args.state.now.end = search rules in
    joined-7 (codes "{\"open\":") (bool_word s.value) (codes ",\"since\":") (edge_text z c.args.bounds.from s.first) (codes ",\"until\":")
    (edge_text z c.args.bounds.to s.end) (codes "}\n") c.new-object.result.items c.push_bytes.new.line.items c.push_bytes-2.new.line.items
    c.push_bytes-3.new.line.items c.push_edge.new.line.items c.push_bytes-4.new.line.items c.push_edge-2.new.line.items c.push_bytes-5.new.line.items
    c.new-object.ensures c.push_bytes.ensures.items word c.push_bytes-3.ensures.items since c.push_bytes-4.ensures.items until c.push_bytes-5.ensures.items
