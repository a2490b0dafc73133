use Rattle.std.proofs.Common.{◌≡◌, All, map, take}
use Rattle.real_doors.specs.Doors.{IsAtItsPort, place_of}
use Rattle.real_doors.proofs.opening.open_doors.Given as goal

abbrev pub invariant-loop-place : goal.invariant-loop-place
invariant-loop-place l = (map place_of l.doors.items ≡ take l.place-index l.places) × All IsAtItsPort l.doors.items
