-- Views of passes at the queue's steps.
use Rattle.std.specs.Prelude.{◌≡◌, ℕ, ◌+◌, ◌-◌, ◌^◌, List, [], ◌∷◌, ◌++◌}
use Rattle.std.specs.List.Sorted.{IsPermutation}
use Rattle.shared_queue.specs.declared.log.Log.{Log}

module _ {T : Type 0} where
  abbrev pub log : ℕ → List T → List T → List T → Log T
  log parts began put taken = record { parts = parts; began = began; put = put; taken = taken }

  abbrev pub first : Log T
  first = log (2 ^ 64) [] [] []

  abbrev pub begun : Log T → T → Log T
  begun v x = log v.parts (v.began ++ x ∷ []) v.put v.taken

  abbrev pub putting : Log T → T → Log T
  putting v x = log v.parts v.began (v.put ++ x ∷ []) v.taken

  abbrev pub taking : Log T → T → Log T
  taking v x = log v.parts v.began v.put (v.taken ++ x ∷ [])

  abbrev pub left : Log T → Log T
  left v = log (v.parts - 1) v.began v.put v.taken

  abbrev pub right : Log T → Log T
  right v = log 1 v.began [] []

  abbrev pub both : Log T → Log T → Log T
  both v w = log (v.parts + w.parts) v.began (v.put ++ w.put) (v.taken ++ w.taken)

  abbrev pub spent : Log T
  spent = log 0 [] [] []

  -- where the pass has all parts: up to order, what the queue began with and what was put are what stands and what was taken
  abbrev pub Settled : Log T → List T → Type 0
  Settled v items = v.parts ≡ 2 ^ 64 → IsPermutation (v.began ++ v.put) (items ++ v.taken)
