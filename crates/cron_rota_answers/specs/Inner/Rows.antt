-- The row of one shift.
use Rattle.std.specs.Prelude.{◌≡◌, ◌++◌, ℕ, List}
use Rattle.jiff_tz.specs.declared.timezone.TimeZone.{TimeZone}
use Rattle.cron_replies.specs.declared.form.Form.{Form}
use Rattle.cron_stretches.specs.declared.stretch.Stretch.{Stretch}
use Rattle.cron_rota_answers.specs.Rows.{IsRow}

-- the row of a shift was appended
abbrev pub AddsRow : Form → TimeZone → List (List ℕ) → Stretch ℕ → List ℕ → List ℕ → Type 0
AddsRow form z names s old new = (here : List ℕ) × (new ≡ old ++ here) × IsRow form z names s here
