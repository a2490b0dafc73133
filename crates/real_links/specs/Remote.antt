-- The ends of a link that was tried for a server, and may not have come up.
use Rattle.fw_outside.specs.SinkView.{SinkView}
use Rattle.fw_outside.specs.SourceView.{SourceView}
use Rattle.fw_outside.specs.declared.mark.Mark.TheVariants.{Own}
use Rattle.fw_types.specs.declared.dest.Dest.{Dest}
use Rattle.real_links.specs.Dialing.{LeadsTo}
use Rattle.real_links.specs.Links.{untold_sink, untold_source}
use Rattle.real_links.specs.declared.link_sink.LinkSink.{LinkSink}
use Rattle.real_links.specs.declared.link_source.LinkSource.{LinkSource}
use Rattle.real_links.specs.declared.remote_sink.RemoteSink.{RemoteSink}
use Rattle.real_links.specs.declared.remote_sink.RemoteSink.TheVariants as sinks
use Rattle.real_links.specs.declared.remote_source.RemoteSource.{RemoteSource}
use Rattle.real_links.specs.declared.remote_source.RemoteSource.TheVariants as sources

-- both tell only counts, as links do
abbrev pub remote_source_view : {S : Type 0} → RemoteSource S → SourceView
remote_source_view (sources.Up link) = untold_source link.amount link.faults link.idles link.waits link.waited link.mark
remote_source_view (sources.Down faults waits) = untold_source 0 faults 0 waits 0 Own

abbrev pub remote_sink_view : {S : Type 0} → RemoteSink S → SinkView
remote_sink_view (sinks.Up link) = untold_sink link.faults link.mark
remote_sink_view (sinks.Down faults) = untold_sink faults Own

-- where the link didn't come up
abbrev pub IfSourceDown : {S : Type 0} → RemoteSource S → Type 0 → Type 0
IfSourceDown (sources.Up link) P = Unit {0}
IfSourceDown (sources.Down faults waits) P = P

abbrev pub IfSinkDown : {S : Type 0} → RemoteSink S → Type 0 → Type 0
IfSinkDown (sinks.Up link) P = Unit {0}
IfSinkDown (sinks.Down faults) P = P

-- Where the link came up this is so of it before and after, and no call takes it for one that didn't come up.
abbrev pub IfSourceUp : {S : Type 0} → (LinkSource S → LinkSource S → Type 0) → RemoteSource S → RemoteSource S → Type 0
IfSourceUp P (sources.Up old) (sources.Up new) = P old new
IfSourceUp P (sources.Up old) (sources.Down faults waits) = ⊥
IfSourceUp P (sources.Down faults waits) new = Unit {0}

abbrev pub IfSinkUp : {S : Type 0} → (LinkSink S → LinkSink S → Type 0) → RemoteSink S → RemoteSink S → Type 0
IfSinkUp P (sinks.Up old) (sinks.Up new) = P old new
IfSinkUp P (sinks.Up old) (sinks.Down faults) = ⊥
IfSinkUp P (sinks.Down faults) new = Unit {0}

-- where it came up, it leads to this destination
abbrev pub IfUpLeadsTo : {S : Type 0} → Dest → RemoteSource S → Type 0
IfUpLeadsTo dest (sources.Up link) = LeadsTo dest link.to
IfUpLeadsTo dest (sources.Down faults waits) = Unit {0}
