-- A file as a disk uses it, where it tells what it holds.
use Rattle.std.specs.Prelude.{◌≡◌, ℕ, ◌-◌, ◌<◌, ◌≤◌, List, length, take, drop, Option, Some, None, IfSome}
use Rattle.fw_disk.specs.DiskView.{IsFront}
use Rattle.fw_disk.specs.Medium.{laid_over}

-- the bytes as a read gives them, and those of the last sync
pub record FileView : Type 0 where
  pub seen : List ℕ
  pub synced : List ℕ

-- ---- what one call does

-- so many bytes were read into the front of a buffer with this room: some of those that stand from a place on, and none
-- only at the end or past it
pub record IsSomeOf (n at room : ℕ) (buf seen : List ℕ) : Type 0 where
  pub within : n ≤ length seen - at
  pub bytes : take n buf ≡ take n (drop at seen)
  pub ended : n ≡ 0 → 0 < room → length seen ≤ at

abbrev pub ReadsSome : ℕ → ℕ → ℕ → List ℕ → Option FileView → Type 0
ReadsSome n at room buf file = IfSome file (λ f. IsSomeOf n at room buf f.seen)

-- so many bytes at the front of a buffer are those that stand from a place on
pub record IsReadTo (n at : ℕ) (buf seen : List ℕ) : Type 0 where
  pub within : n ≤ length seen - at
  pub bytes : take n buf ≡ take n (drop at seen)

abbrev pub ReadsTo : ℕ → ℕ → List ℕ → Option FileView → Type 0
ReadsTo n at buf file = IfSome file (λ f. IsReadTo n at buf f.seen)

-- the file ends at a place or before it
abbrev pub EndsBy : ℕ → Option FileView → Type 0
EndsBy at file = IfSome file (λ f. length f.seen ≤ at)

-- the bytes that stand from a place on were read, as many as fit into this room
abbrev pub ReadsAll : ℕ → ℕ → ℕ → List ℕ → Option FileView → Type 0
ReadsAll n at room buf file = IfSome file (λ f. IsFront n at room buf f.seen)

-- the bytes stand in the file from a place on, which was within it or at its end; all others are as they were
abbrev pub Lays : ℕ → List ℕ → Option FileView → Option FileView → Type 0
Lays at bytes old new = IfSome old (λ f. at ≤ length f.seen → new ≡ Some (record {
  seen = laid_over at bytes f.seen;
  synced = f.synced;
}))

-- the file is cut at a length that it had or was below its own
abbrev pub Cuts : ℕ → Option FileView → Option FileView → Type 0
Cuts len old new = IfSome old (λ f. len ≤ length f.seen → new ≡ Some (record { seen = take len f.seen; synced = f.synced }))

-- the bytes as read are synced
abbrev pub Settles : Option FileView → Option FileView → Type 0
Settles old new = IfSome old (λ f. new ≡ Some (record { seen = f.seen; synced = f.seen }))

-- ---- a file that is opened when it is first called: none as long as it isn't

-- a file that was open is as it was
abbrev pub IsKept : Option (Option FileView) → Option (Option FileView) → Type 0
IsKept None new = Unit {0}
IsKept (Some file) new = new ≡ Some file

-- what a read answers: nothing of a file that is missing, and of any other the bytes from a place on
abbrev pub IsReadFrom : ℕ → ℕ → ℕ → List ℕ → Option (Option FileView) → Type 0
IsReadFrom n at room buf None = n ≡ 0
IsReadFrom n at room buf (Some file) = ReadsAll n at room buf file

-- a call did this to the file, which was open then
pub record IsDone (P : Option FileView → Option FileView → Type 0) (old new : Option (Option FileView)) : Type 0 where
  pub before : Option FileView
  pub after : Option FileView
  pub was : IsKept old (Some before)
  pub done : P before after
  pub is : new ≡ Some after

-- a sync: of a file that is missing there is nothing to sync, and the bytes of any other are synced
abbrev pub IsSynced : Option (Option FileView) → Option (Option FileView) → Type 0
IsSynced old None = IsKept old None
IsSynced old (Some file) = IsDone Settles old (Some file)
