use Rattle.std.proofs.Common.{◌≡◌, ◌++◌, flat_map, take}
use Rattle.cron_calendar.specs.Shapes.{shape_text}
use Rattle.cron_calendar.proofs.html.shapes.push_drawing.Given as goal

abbrev pub invariant-loop-shape : goal.invariant-loop-shape
invariant-loop-shape l = l.page.items ≡ l.fn.page.items ++ flat_map shape_text (take l.shape-index l.shapes)
