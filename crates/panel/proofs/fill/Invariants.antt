use Rattle.std.proofs.Common.{◌≡◌}
use Rattle.panel.specs.Panels.{filled}
use Rattle.panel.proofs.fill.Given as goal

-- the records before are filled
abbrev pub invariant-loop-i : goal.invariant-loop-i
invariant-loop-i l = l.panel ≡ filled l.entries l.i l.initial.panel
