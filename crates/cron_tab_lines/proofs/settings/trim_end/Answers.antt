use Rattle.std.proofs.Common.{◌≡◌, ◌<◌, length, get_or, true, false, sym, ◌∙◌, arith}
use Rattle.cron_tab_lines.specs.Bytes.{is_white}
use Rattle.cron_tab_lines.proofs.SettingLemmas.{more-other, more-white}
use Rattle.cron_tab_lines.proofs.settings.trim_end.Goals as goal
use Rattle.cron_tab_lines.proofs.settings.trim_end.Goals.{then-not-is_white, else-not-is_white}

pub loop-at-preserved : goal.loop-at-preserved
loop-at-preserved c =
    let text = c.args.text.now in
    let at = c.loop-at.at in
    let lt : at < length text = omega arith in
    let before = c.loop-at.invariant.within in
    elim c.if-not-is_white.branch [
      | then-not-is_white w ↦
          let other : is_white (get_or text at 0) ≡ false = sym c.is_white.ensures ∙ w.if-not-is_white.true in
          record { within = omega arith; kept = rw w.end-is (more-other text at lt other) }
      | else-not-is_white w ↦
          let white : is_white (get_or text at 0) ≡ true = sym c.is_white.ensures ∙ w.if-not-is_white.false in
          record { within = omega arith; kept = rw w.end-is (more-white text at c.loop-at.end lt c.loop-at.invariant.kept white) }
    ]
