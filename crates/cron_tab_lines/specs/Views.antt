-- What contracts see of the values of the code.
use Rattle.std.specs.Prelude.{ℕ, List, Option, Result, Ok, Err}
use Rattle.std.specs.Option.{option_map}
use Rattle.std.specs.Borrow.{Bor}
use Rattle.cron_crontab.specs.Views.{expression_view, fault_view}
use Rattle.cron_tab_lines.specs.Entries as entries
use Rattle.cron_tab_lines.specs.Files as files
use Rattle.cron_tab_lines.specs.Lines as lines
use Rattle.cron_tab_lines.specs.Lines.{blank, comment, setting, zone, entry}
use Rattle.cron_tab_lines.specs.Refusals as refusals
use Rattle.cron_tab_lines.specs.Refusals.{nul, byte_order_mark, second_line, lone_return, no_value, open_quote, behind_quote, strange_byte, expression, sixth_field, no_user, no_command}
use Rattle.cron_tab_lines.specs.declared.kinds.Entry.{Entry}
use Rattle.cron_tab_lines.specs.declared.kinds.Line.{Line}
use Rattle.cron_tab_lines.specs.declared.kinds.Line.TheVariants.{Blank, Comment, Setting, Zone, Entry as Read}
use Rattle.cron_tab_lines.specs.declared.files.FileLine.{FileLine}
use Rattle.cron_tab_lines.specs.declared.refusals.Refusal.{Refusal}
use Rattle.cron_tab_lines.specs.declared.refusals.Refusal.TheVariants.{Nul, ByteOrderMark, SecondLine, LoneReturn, NoValue, OpenQuote, BehindQuote, StrangeByte, Expression, SixthField, NoUser, NoCommand}

abbrev pub refusal_view : Refusal → refusals.Refusal
refusal_view Nul = nul
refusal_view ByteOrderMark = byte_order_mark
refusal_view SecondLine = second_line
refusal_view LoneReturn = lone_return
refusal_view NoValue = no_value
refusal_view OpenQuote = open_quote
refusal_view BehindQuote = behind_quote
refusal_view StrangeByte = strange_byte
refusal_view (Expression fault) = expression (fault_view fault)
refusal_view SixthField = sixth_field
refusal_view NoUser = no_user
refusal_view NoCommand = no_command

abbrev pub bytes_view : Option (Bor (List ℕ)) → Option (List ℕ)
bytes_view bytes = option_map (λ b. b.now) bytes

abbrev pub entry_view : Entry → entries.Entry
entry_view e = record { meaning = expression_view e.expression; user = bytes_view e.user; command = e.command.now; input = bytes_view e.input }

abbrev pub line_view : Line → lines.Meaning
line_view Blank = blank
line_view Comment = comment
line_view (Setting s) = setting s.name.now s.value.now
line_view (Zone value) = zone value.now
line_view (Read e) = entry (entry_view e)

abbrev pub outcome_view : Result Line Refusal → Result lines.Meaning refusals.Refusal
outcome_view (Ok line) = Ok (line_view line)
outcome_view (Err refusal) = Err (refusal_view refusal)

abbrev pub file_line_view : FileLine → files.FileLine
file_line_view l = record { number = l.number; bytes = l.bytes.now; outcome = outcome_view l.read }
