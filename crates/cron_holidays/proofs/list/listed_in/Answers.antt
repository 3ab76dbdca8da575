use Rattle.std.proofs.Common.{◌≡◌, ℕ, ◌<◌, ◌-◌, List, true, false, sym, ◌∙◌, length, take, drop, ap, arith}
use Rattle.std.proofs.lemmas.List.{length-drop, take_all}
use Rattle.cron_tab_lines.specs.Bytes.{behind, is_blank}
use Rattle.cron_holidays.specs.Lists.{is_over}
use Rattle.cron_holidays.proofs.ListLemmas.{dated-day, listed-dated, long-dated, short-dated}
use Rattle.cron_holidays.proofs.list.listed_in.Goals as goal
use Rattle.cron_holidays.proofs.list.listed_in.Goals.{then-rest-lt-DATE_LEN-via-then-rest-lt-DATE_LEN, then-rest-lt-DATE_LEN-via-else-rest-lt-DATE_LEN+then-not-is_over}

-- what follows a date is over, as the code cuts it
behind-date : (rest : List ℕ) → is_over (take (length rest - 10) (drop 10 rest)) ≡ is_over (drop 10 rest)
behind-date rest = let size = length-drop 10 rest in ap is_over (take_all (length rest - 10) (drop 10 rest) (omega arith))

pub returns-then-rest-lt-DATE_LEN : goal.returns-then-rest-lt-DATE_LEN
returns-then-rest-lt-DATE_LEN c =
    let text = c.args.text.now in
    let rest = c.behind_blanks-rest.result.now in
    let same : rest ≡ behind is_blank text = c.behind_blanks-rest.ensures in
    let some : is_over text ≡ false = sym c.is_over.ensures ∙ c.if-is_over.false in
    listed-dated text _ some (elim c.then-rest-lt-DATE_LEN.branch [
      | then-rest-lt-DATE_LEN-via-then-rest-lt-DATE_LEN w ↦
          let short : length rest < 10 = w.if-rest-lt-DATE_LEN.true in
          rw (← same) (short-dated rest short)
      | then-rest-lt-DATE_LEN-via-else-rest-lt-DATE_LEN+then-not-is_over w ↦
          let more : is_over (drop 10 rest) ≡ false = sym (behind-date rest) ∙ (sym w.is_over-else-rest-lt-DATE_LEN.ensures ∙ w.if-not-is_over.true) in
          rw (← same) (long-dated rest more)
    ])

pub returns-in-Ok : goal.returns-in-Ok
returns-in-Ok c =
    let text = c.args.text.now in
    let rest = c.behind_blanks-rest.result.now in
    let same : rest ≡ behind is_blank text = c.behind_blanks-rest.ensures in
    let some : is_over text ≡ false = sym c.is_over.ensures ∙ c.if-is_over.false in
    let over : is_over (drop 10 rest) ≡ true = sym (behind-date rest) ∙ (sym c.is_over-else-rest-lt-DATE_LEN.ensures ∙ c.if-not-is_over.false) in
    listed-dated text _ some (rw (← same) (dated-day rest _ over c.in-Ok.ensures))

pub returns-in-Err : goal.returns-in-Err
returns-in-Err c =
    let text = c.args.text.now in
    let rest = c.behind_blanks-rest.result.now in
    let same : rest ≡ behind is_blank text = c.behind_blanks-rest.ensures in
    let some : is_over text ≡ false = sym c.is_over.ensures ∙ c.if-is_over.false in
    let over : is_over (drop 10 rest) ≡ true = sym (behind-date rest) ∙ (sym c.is_over-else-rest-lt-DATE_LEN.ensures ∙ c.if-not-is_over.false) in
    listed-dated text _ some (rw (← same) (dated-day rest _ over c.in-Err.ensures))
