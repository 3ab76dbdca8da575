-- The codes of refusals.
use Rattle.std.specs.Prelude.{ℕ, List, codes}
use Rattle.cron_units.specs.Refusals as items
use Rattle.cron_units.specs.Views.{refusal_view}
use Rattle.cron_text.specs.declared.faults.Fault as text
use Rattle.cron_text.specs.declared.faults.Fault.TheVariants.{Syntax, Refused}
use Rattle.cron_crontab.specs.Refusals as crontab
use Rattle.cron_tab_lines.specs.Refusals as lines
use Rattle.cron_quartz.specs.Refusals as quartz

-- ---- expressions of this library

abbrev pub item_code : items.Refusal → List ℕ
item_code (items.unknown_name word) = codes "name-unknown"
item_code (items.too_small n) = codes "number-outside"
item_code (items.too_large n) = codes "number-outside"
item_code (items.bad_range a b) = codes "range-backward"
item_code (items.bad_name_range a b) = codes "range-backward"
item_code items.zero_step = codes "step-zero"
item_code (items.large_step n) = codes "step-outside"

abbrev pub text_code : text.Fault → List ℕ
text_code Syntax = codes "expression-unread"
text_code (Refused item) = item_code (refusal_view item.refusal)

-- ---- crontabs

abbrev pub crontab_reason_code : crontab.Reason → List ℕ
crontab_reason_code crontab.missing = codes "item-missing"
crontab_reason_code (crontab.no_number word) = codes "number-wanted"
crontab_reason_code crontab.long_number = codes "number-long"
crontab_reason_code (crontab.outside n) = codes "number-outside"
crontab_reason_code (crontab.ignored word) = codes "item-trailing"
crontab_reason_code crontab.lone_step = codes "step-alone"
crontab_reason_code (crontab.no_step word) = codes "step-wanted"
crontab_reason_code crontab.zero_step = codes "step-zero"

abbrev pub crontab_code : crontab.Fault → List ℕ
crontab_code (crontab.refused field item reason) = crontab_reason_code reason
crontab_code (crontab.no_field field) = codes "field-missing"
crontab_code (crontab.sixth_field word) = codes "field-sixth"
crontab_code (crontab.no_nickname word) = codes "nickname-unknown"
crontab_code (crontab.capital_nickname word) = codes "nickname-capital"
crontab_code (crontab.behind_nickname word) = codes "nickname-trailing"
crontab_code (crontab.second_line word) = codes "line-second"

abbrev pub line_code : lines.Refusal → List ℕ
line_code lines.nul = codes "line-nul"
line_code lines.byte_order_mark = codes "file-mark"
line_code lines.second_line = codes "line-second"
line_code lines.lone_return = codes "line-return"
line_code lines.no_value = codes "value-missing"
line_code lines.open_quote = codes "quote-open"
line_code lines.behind_quote = codes "quote-trailing"
line_code lines.strange_byte = codes "byte-strange"
line_code (lines.expression fault) = crontab_code fault
line_code lines.sixth_field = codes "field-sixth"
line_code lines.no_user = codes "user-missing"
line_code lines.no_command = codes "command-missing"

-- ---- Quartz

abbrev pub quartz_reason_code : quartz.Reason → List ℕ
quartz_reason_code quartz.missing = codes "item-missing"
quartz_reason_code (quartz.no_number word) = codes "number-wanted"
quartz_reason_code quartz.long_number = codes "number-long"
quartz_reason_code (quartz.outside n low high) = codes "number-outside"
quartz_reason_code (quartz.outside_step n high) = codes "step-outside"
quartz_reason_code (quartz.ignored word) = codes "item-trailing"
quartz_reason_code quartz.named_step = codes "step-named"
quartz_reason_code quartz.mixed = codes "range-mixed"
quartz_reason_code quartz.backward = codes "range-backward"
quartz_reason_code quartz.no_form = codes "days-form"

abbrev pub quartz_code : quartz.Fault → List ℕ
quartz_code (quartz.refused unit item reason) = quartz_reason_code reason
quartz_code (quartz.no_field unit) = codes "field-missing"
quartz_code (quartz.eighth_field word) = codes "field-eighth"
quartz_code quartz.no_days = codes "days-none"
quartz_code quartz.both_days = codes "days-both"
