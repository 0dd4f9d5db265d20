-- `CongestionEventSample::fault` meets its contract: field by field. Assumes nothing.
use mathlib.Core.Path.{◌∙◌}
use Rattle.state.specs.Faults.{sample_faults}
use Rattle.state.proofs.congestion_event.CongestionEventSample.fault.Goals as goal

pub returns : goal.returns
unfolding sample_faults
returns c = c.first_of.ensures ∙ rw (c.unless.ensures, c.unless-2.ensures, c.unless-3.ensures, c.unless-4.ensures, c.unless-5.ensures, c.unless-6.ensures, c.unless-7.ensures, c.unless-8.ensures, c.unless-9.ensures, c.unless-10.ensures, c.unless-11.ensures, c.unless-12.ensures, c.unless-13.ensures, c.unless-14.ensures, c.unless-15.ensures, c.unless-16.ensures, c.unless-17.ensures, c.maybe_ok.ensures, c.maybe_ok-2.ensures, c.maybe_ok-3.ensures, c.maybe_length_ok.ensures, c.bytes_ok.ensures, c.bytes_ok-2.ensures, c.bytes_ok-3.ensures, c.total_ok.ensures, c.total_ok-2.ensures, c.total_ok-3.ensures)
