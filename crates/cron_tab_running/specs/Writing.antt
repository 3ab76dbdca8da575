-- What is written at the fires of an agenda.
use Rattle.std.specs.Prelude.{◌≡◌, ℕ, Bool, true, false, List, [], Option, Some, None, Result, Ok, Err, ⊤, is_err, slice_get}
use Rattle.std.specs.declared.alloc.Global.{Global}
use Rattle.std.specs.declared.vec.Vec.{Vec}
use Rattle.cron_agenda.specs.declared.fire.AgendaFire.{AgendaFire}
use Rattle.cron_agenda.specs.Entries.{Listed}
use Rattle.cron_agenda.specs.Messages.{fire_text}
use Rattle.cron_printing.specs.Printing.{PrintsText, WriterCalls}
use Rattle.cron_printing.specs.declared.printer.Printer.{Printer}
use Rattle.cron_printing.specs.declared.printer.WriteFailed.{WriteFailed}
use Rattle.cron_shell.specs.Lines.{log_front}
use Rattle.cron_tab_running.specs.declared.writer.TabWriter.{TabWriter}

abbrev pub or_nothing : Option (Vec ℕ Global) → List ℕ
or_nothing None = []
or_nothing (Some text) = text.items

-- the text of the entry with this id, or an empty one if there is none
abbrev pub text_at : List (Vec ℕ Global) → ℕ → List ℕ
text_at texts id = or_nothing (slice_get texts id)

-- A text is written if it is wanted, and else nothing is.
abbrev pub PrintsWhere : {W E : Type 0} → WriterCalls W → Bool → Printer W → List ℕ → Result ⊤ E → Printer W → Type 0
PrintsWhere calls true old text answer new = PrintsText calls old text answer new
PrintsWhere calls false old text answer new = (answer ≡ Ok tt) × (new ≡ old)

-- A text is written after another one. If the first couldn't be written, it fails without a call.
abbrev pub PrintsThen : {W E F : Type 0} → WriterCalls W → List ℕ → Result ⊤ F → Printer W → Result ⊤ E → Printer W → Type 0
PrintsThen calls text (Ok done) old answer new = PrintsText calls old text answer new
PrintsThen calls text (Err e) old answer new = (is_err answer ≡ true) × (new ≡ old)

-- If fires are named, the front that writes the fire to a log file is written. Then the text of the
-- fire's entry is, as the answer says. The texts and the agenda stay.
abbrev pub WritesText : {T W E : Type 0} → WriterCalls W → TabWriter W → AgendaFire → Listed T → Result ⊤ E → TabWriter W → Listed T → Type 0
WritesText {W = W} calls old fire agenda answer new agenda' =
    (named : Result ⊤ WriteFailed) × (between : Printer W) × PrintsWhere calls old.names_fires old.printer (log_front (fire_text fire.fire)) named between
    × PrintsThen calls (text_at old.texts.items fire.id) named between answer new.printer
    × (new.texts ≡ old.texts) × (new.names_fires ≡ old.names_fires) × (agenda' ≡ agenda)

-- The texts of `@reboot` are written at the start, if they are wanted.
abbrev pub WritesStart : {W : Type 0} → WriterCalls W → Bool → List ℕ → Printer W → Result ⊤ WriteFailed → Printer W → Type 0
WritesStart calls wanted text old answer new = PrintsWhere calls wanted old text answer new
