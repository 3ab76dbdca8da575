use Rattle.std.proofs.Common.{◌≡◌, ◌∙◌, false, sym, ap}
use Rattle.std.specs.Prelude.{◌==◌}
use Rattle.std.specs.List.{list_any}
use Rattle.cron_tab_lines.specs.Lines.{without_last}
use Rattle.cron_tab_lines.proofs.lines.read_line.Goals as goal

pub returns : goal.returns
returns c =
    let line = c.args.line.now in
    let nul : list_any (λ x. x == 0) line ≡ false = sym c.has_byte.ensures ∙ c.if-has_byte.false in
    let front : c.without_last.result.now ≡ without_last line = c.without_last.ensures in
    let feed : list_any (λ x. x == 10) (without_last line) ≡ false =
    ap (λ text. list_any (λ x. x == 10) text) (sym front) ∙ (sym c.has_byte-2.ensures ∙ c.if-has_byte-2.false) in
    rw (nul, feed) (rw c.behind.ensures.is at c.read_text.ensures)
