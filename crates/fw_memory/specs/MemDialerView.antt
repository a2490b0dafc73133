-- A dialer in memory.
use Rattle.std.specs.Prelude.{◌≡◌, ℕ, nat_le, nat_lt, ◌||◌, ◌&&◌, not, Bool, true, false, List, [], ◌∷◌, ◌++◌, length, map, drop, Option, Some, None, if◌then◌else◌}
use Rattle.std.specs.List.{slice_get}
use Rattle.fw_outside.specs.Counts.{counted}
use Rattle.fw_outside.specs.DialerView.{DialerView, LinkView, has_broken}
use Rattle.fw_outside.specs.declared.ask.Ask.{Ask}
use Rattle.fw_outside.specs.declared.ask.Ask.TheVariants.{Door}
use Rattle.fw_outside.specs.declared.dialed.Dialed.{Dialed}
use Rattle.fw_outside.specs.declared.dialed.Dialed.TheVariants.{Up, Refused}
use Rattle.fw_outside.specs.declared.mark.Mark.{Mark}
use Rattle.fw_memory.specs.CallsView.{CallsView, comes_at}
use Rattle.fw_memory.specs.MemSinkView.{MemSinkView, sink_view_of}
use Rattle.fw_memory.specs.MemSourceView.{MemSourceView, source_view_of}

-- the links to come, and the addresses and ports of the doors to come, in order; the entries for which there is room, the
-- calls that are refused, and how many calls there were; what was asked, and whether a call came past that room; the links
-- that were hung up, for how many of them there is room, and whether one was hung up past that; and the counts
pub record MemDialerView : Type 0 where
  pub links : List (MemSourceView × MemSinkView)
  pub doors : List (List ℕ × ℕ)
  pub room : ℕ
  pub fails : CallsView
  pub calls : ℕ
  pub asked : List Ask
  pub asked_past : Bool
  pub ended : List (MemSourceView × MemSinkView)
  pub ended_room : ℕ
  pub ended_past : Bool
  pub came : ℕ
  pub refusals : ℕ
  pub link_faults : ℕ
  pub link_idles : ℕ
  pub data_faults : ℕ
  pub data_idles : ℕ
  pub waits : ℕ

-- nothing was taken of the link or given to it, and nothing is counted: its source was never idle
pub record IsNewLink (link : MemSourceView × MemSinkView) : Type 0 where
  pub taken : link.0.taken ≡ []
  pub faults : link.0.faults ≡ 0
  pub idles : link.0.idles ≡ 0
  pub unwaited : link.0.waited ≡ 0
  pub takes : link.0.calls ≡ 0
  pub given : link.1.given ≡ []
  pub unshut : link.1.shut ≡ false
  pub unfailed : link.1.faults ≡ 0
  pub gifts : link.1.calls ≡ 0

abbrev pub link_view_of : MemSourceView × MemSinkView → LinkView
link_view_of link = record { from = source_view_of link.0; to = sink_view_of link.1 }

-- it tells all, but no list for which there was no room
abbrev pub dialer_view_of : MemDialerView → DialerView
dialer_view_of d = record {
  asked = if d.asked_past then None else Some d.asked;
  ended = if d.ended_past then None else Some (map link_view_of d.ended);
  came = d.came;
  refusals = d.refusals;
  link_faults = d.link_faults;
  link_idles = d.link_idles;
  data_faults = d.data_faults;
  data_idles = d.data_idles;
  waits = d.waits;
}

-- whether there is room for one more entry of what was asked
abbrev pub has_room : MemDialerView → Bool
has_room d = nat_lt (length d.asked) d.room

-- whether there is room for one more link that was hung up
abbrev pub has_ended_room : MemDialerView → Bool
has_ended_room d = nat_lt (length d.ended) d.ended_room

-- whether a call but `accept` brings a link up: it isn't told to fail, there is room for its entry, and a link is left
abbrev pub brings_up : MemDialerView → Bool
brings_up d = not (comes_at d.fails d.calls) && (has_room d && nat_lt 0 (length d.links))

-- whether `accept` brings a link up: it isn't told to fail, and a link is left. It has no entry
abbrev pub accepts : MemDialerView → Bool
accepts d = not (comes_at d.fails d.calls) && nat_lt 0 (length d.links)

-- whether a door opens: the call isn't told to fail, there is room for its entry, and a door is left
abbrev pub opens : MemDialerView → Bool
opens d = not (comes_at d.fails d.calls) && (has_room d && nat_lt 0 (length d.doors))

-- the address and the port of what was answered
abbrev pub place_of : {D : Type 0} → Option (D × List ℕ × ℕ) → Option (List ℕ × ℕ)
place_of (Some (door, addr, port)) = Some (addr, port)
place_of None = None

abbrev pub is_up : {I O : Type 0} → Dialed I O → Bool
is_up (Up from to) = true
is_up Refused = false

-- one more call was made, its entry stands where there is room, it is counted where it brings a link up and where it is refused,
-- and what was told stands
pub record CountsAsk (ask : Ask) (old new : MemDialerView) : Type 0 where
  pub doors : new.doors ≡ old.doors
  pub room : new.room ≡ old.room
  pub fails : new.fails ≡ old.fails
  pub calls : new.calls ≡ counted old.calls
  pub asked : new.asked ≡ (if has_room old then old.asked ++ ask ∷ [] else old.asked)
  pub asked_past : new.asked_past ≡ (old.asked_past || not (has_room old))
  pub ended : new.ended ≡ old.ended
  pub ended_room : new.ended_room ≡ old.ended_room
  pub ended_past : new.ended_past ≡ old.ended_past
  pub came : new.came ≡ (if brings_up old then counted old.came else old.came)
  pub refusals : new.refusals ≡ (if brings_up old then old.refusals else counted old.refusals)
  pub link_faults : new.link_faults ≡ old.link_faults
  pub link_idles : new.link_idles ≡ old.link_idles
  pub data_faults : new.data_faults ≡ old.data_faults
  pub data_idles : new.data_idles ≡ old.data_idles
  pub waits : new.waits ≡ old.waits

-- one more call of `door` was made, which was answered with this address and port or refused; its entry stands where there
-- is room, it is counted where it is refused, and what was told stands
pub record CountsDoor (at : Option (List ℕ × ℕ)) (old new : MemDialerView) : Type 0 where
  pub links : new.links ≡ old.links
  pub room : new.room ≡ old.room
  pub fails : new.fails ≡ old.fails
  pub calls : new.calls ≡ counted old.calls
  pub asked : new.asked ≡ (if has_room old then old.asked ++ Door at ∷ [] else old.asked)
  pub asked_past : new.asked_past ≡ (old.asked_past || not (has_room old))
  pub ended : new.ended ≡ old.ended
  pub ended_room : new.ended_room ≡ old.ended_room
  pub ended_past : new.ended_past ≡ old.ended_past
  pub came : new.came ≡ old.came
  pub refusals : new.refusals ≡ (if opens old then old.refusals else counted old.refusals)
  pub link_faults : new.link_faults ≡ old.link_faults
  pub link_idles : new.link_idles ≡ old.link_idles
  pub data_faults : new.data_faults ≡ old.data_faults
  pub data_idles : new.data_idles ≡ old.data_idles
  pub waits : new.waits ≡ old.waits

-- one more call of `accept` was made, it is counted where it brings a link up and where it is refused, and what was told and asked stands
pub record CountsAccept (old new : MemDialerView) : Type 0 where
  pub doors : new.doors ≡ old.doors
  pub room : new.room ≡ old.room
  pub fails : new.fails ≡ old.fails
  pub calls : new.calls ≡ counted old.calls
  pub asked : new.asked ≡ old.asked
  pub asked_past : new.asked_past ≡ old.asked_past
  pub ended : new.ended ≡ old.ended
  pub ended_room : new.ended_room ≡ old.ended_room
  pub ended_past : new.ended_past ≡ old.ended_past
  pub came : new.came ≡ (if accepts old then counted old.came else old.came)
  pub refusals : new.refusals ≡ (if accepts old then old.refusals else counted old.refusals)
  pub link_faults : new.link_faults ≡ old.link_faults
  pub link_idles : new.link_idles ≡ old.link_idles
  pub data_faults : new.data_faults ≡ old.data_faults
  pub data_idles : new.data_idles ≡ old.data_idles
  pub waits : new.waits ≡ old.waits

-- the link is the first of those to come, marked so, and waits as the dialer says
abbrev pub IsNextLink : Mark → MemSourceView → MemSinkView → MemDialerView → MemDialerView → Type 0
IsNextLink mark from to old new =
    (source : MemSourceView) × (sink : MemSinkView) × (from ≡ record source { waits = old.waits; mark = mark })
    × (to ≡ record sink { mark = mark }) × (old.links ≡ (source, sink) ∷ new.links)

-- what stands after a main link was hung up
pub record CountsHangUp (from : MemSourceView) (to : MemSinkView) (old new : MemDialerView) : Type 0 where
  pub links : new.links ≡ old.links
  pub doors : new.doors ≡ old.doors
  pub room : new.room ≡ old.room
  pub fails : new.fails ≡ old.fails
  pub calls : new.calls ≡ old.calls
  pub asked : new.asked ≡ old.asked
  pub asked_past : new.asked_past ≡ old.asked_past
  pub ended : new.ended ≡ (if has_ended_room old then old.ended ++ (from, to) ∷ [] else old.ended)
  pub ended_past : new.ended_past ≡ (old.ended_past || not (has_ended_room old))
  pub ended_room : new.ended_room ≡ old.ended_room
  pub came : new.came ≡ old.came
  pub refusals : new.refusals ≡ old.refusals
  pub link_faults : new.link_faults ≡ (if has_broken (source_view_of from) (sink_view_of to) then counted old.link_faults else old.link_faults)
  pub link_idles : new.link_idles ≡ (if nat_lt 0 from.idles then counted old.link_idles else old.link_idles)
  pub data_faults : new.data_faults ≡ old.data_faults
  pub data_idles : new.data_idles ≡ old.data_idles
  pub waits : new.waits ≡ old.waits

-- what stands after a data link was hung up
pub record CountsLetGo (from : MemSourceView) (to : MemSinkView) (old new : MemDialerView) : Type 0 where
  pub links : new.links ≡ old.links
  pub doors : new.doors ≡ old.doors
  pub room : new.room ≡ old.room
  pub fails : new.fails ≡ old.fails
  pub calls : new.calls ≡ old.calls
  pub asked : new.asked ≡ old.asked
  pub asked_past : new.asked_past ≡ old.asked_past
  pub ended : new.ended ≡ (if has_ended_room old then old.ended ++ (from, to) ∷ [] else old.ended)
  pub ended_past : new.ended_past ≡ (old.ended_past || not (has_ended_room old))
  pub ended_room : new.ended_room ≡ old.ended_room
  pub came : new.came ≡ old.came
  pub refusals : new.refusals ≡ old.refusals
  pub link_faults : new.link_faults ≡ old.link_faults
  pub link_idles : new.link_idles ≡ old.link_idles
  pub data_faults : new.data_faults ≡ (if has_broken (source_view_of from) (sink_view_of to) then counted old.data_faults else old.data_faults)
  pub data_idles : new.data_idles ≡ (if nat_lt 0 from.idles then counted old.data_idles else old.data_idles)
  pub waits : new.waits ≡ old.waits
