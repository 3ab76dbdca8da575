use Rattle.std.proofs.Common.{◌≡◌, ◌≤◌, ◌-◌, ◌+◌, suc, length, take, drop, ap, arith, ◌∙◌, ◌∷◌}
use Rattle.std.proofs.lemmas.List.{drop_all, length-drop, take_all}
use Rattle.cron_shell.specs.Inner.Cuts.{front_len}
use Rattle.cron_shell.specs.Lines.{input_lines}
use Rattle.cron_shell.proofs.CutLemmas.{first-line}
use Rattle.cron_shell.proofs.lines.cut_line.Goals as goal

pub returns-then-end-text-clause-lines : goal.returns-then-end-text-clause-lines
returns-then-end-text-clause-lines c =
    let text = c.args.text.now in
    let past : length text ≤ c.front_len-end.result = c.if-end-text.true in
    let is : c.front_len-end.result ≡ front_len text = c.front_len-end.ensures.is in
    let low : length text ≤ front_len text = omega (arith, past, is) in
    let more : length text ≤ suc (front_len text) = omega (arith, past, is) in
    first-line text c.requires
    ∙ ap (λ t. t ∷ input_lines (drop (suc (front_len text)) text)) (take_all (front_len text) text low)
    ∙ ap (λ t. text ∷ input_lines t) (drop_all (suc (front_len text)) text more)

pub returns-clause-lines : goal.returns-clause-lines
returns-clause-lines c =
    let text = c.args.text.now in
    let end = c.front_len-end.result in
    let size = length-drop (end + 1) text in
    let all : take (length text - (end + 1)) (drop (end + 1) text) ≡ drop (end + 1) text = take_all (length text - (end + 1)) (drop (end + 1) text) (omega arith) in
    let one : end + 1 ≡ suc end = omega arith in
    rw (all, one, c.front_len-end.ensures.is) (first-line text c.requires)
