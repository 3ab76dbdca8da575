use Rattle.std.proofs.Common.{◌≡◌, ◌≤◌, ◌+◌, ◌*◌, ◌++◌, take}
use Rattle.std.specs.List.{flat_map}
use Rattle.arrayvec.specs.ArrayVec.{array_vec_len}
use Rattle.cron_shell.specs.Quoted.{escaped}
use Rattle.cron_tab_running.proofs.fronts.push_text.Given as goal

-- the bytes up to here were appended, each as four at most
abbrev pub invariant-loop-byte : goal.invariant-loop-byte
invariant-loop-byte l = record {
  items : l.front.items ≡ l.initial.front.items ++ flat_map escaped (take l.byte-index l.text);
  len : array_vec_len l.front ≤ array_vec_len l.initial.front + 4 * l.byte-index;
}
