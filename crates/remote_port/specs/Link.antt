-- The two ends of a link to a server, and the buffer after which it is heard.
use Rattle.std.specs.Prelude.{◌≡◌, ℕ, ◌+◌, ◌-◌, ◌^◌, List, Result, Ok, Err, min}
use Rattle.fw_outside.specs.LineReaderView.{LineReaderView, Listens}
use Rattle.fw_outside.specs.SinkView.{Cut, SinkView}
use Rattle.fw_outside.specs.SourceView.{SourceView}
use Rattle.fw_outside.specs.ToldList.{grown}
use Rattle.fw_outside.specs.declared.failed.Failed.{Failed}
use Rattle.fw_outside.specs.declared.heard.Heard.{Heard}

pub record LinkView : Type 0 where
  pub reader : LineReaderView
  pub source : SourceView
  pub sink : SinkView

-- how often two ends failed, or nothing came in time, as a count of 64 bits
abbrev pub failures : SourceView → SinkView → ℕ
failures source sink = min (source.faults + source.idles + sink.faults) (2 ^ 64 - 1)

-- the same of a link
abbrev pub faults_of : LinkView → ℕ
faults_of link = failures link.source link.sink

-- the text was given, and then this was heard
pub record Hears (heard : Heard) (text : List ℕ) (old new : LinkView) : Type 0 where
  pub gave : new.sink ≡ record old.sink { given = grown old.sink.given text }
  pub listens : Listens heard old.reader new.reader old.source new.source

-- the sink failed within the text
pub record IsCutOff (text : List ℕ) (old new : LinkView) : Type 0 where
  pub cut : Cut text old.sink new.sink
  pub reader : new.reader ≡ old.reader
  pub source : new.source ≡ old.source

abbrev pub Exchanges : Result Heard Failed → List ℕ → LinkView → LinkView → Type 0
Exchanges (Ok heard) text old new = Hears heard text old new
Exchanges (Err _) text old new = IsCutOff text old new
