-- What two runs keep of one recording and its properties never contradicts each other.
use Rattle.std.specs.Prelude.{◌≡◌, List}
use Rattle.std.specs.List.{AllZip}
use Rattle.gp_property.specs.PropertyForm.{PropertyForm}
use Rattle.gp_window.specs.RecordingForm.{RecordingForm}
use Rattle.gp_predict.specs.Tasks.{Analysis, Compacted, Deadlocks, Expected, Linking, Means, Notifying, Resumption, Text, Verdict}
use Rattle.gp_predict.specs.Told.{Analysed, Kept, Linked, Notified, Stuck, Told}
use Rattle.gp_agreement.specs.Agreement.{Agree}
use Rattle.gp_agreement.specs.Links.{LinksAgree}

-- what is due is of this recording, and of these properties where it is of any; of a text, a verdict and a compact form nothing is
-- kept
abbrev pub IsDueOf : RecordingForm → List PropertyForm → Expected → Type 0
IsDueOf recording properties (Text reply) = Unit {0}
IsDueOf recording properties (Analysis analysis) = (analysis.recording ≡ recording) × (analysis.properties ≡ properties)
IsDueOf recording properties (Verdict submission) = Unit {0}
IsDueOf recording properties (Compacted submission) = Unit {0}
IsDueOf recording properties (Linking linking) = linking.recording ≡ recording
IsDueOf recording properties (Deadlocks analysis) = analysis.recording ≡ recording
IsDueOf recording properties (Notifying analysis) = (analysis.recording ≡ recording) × (analysis.properties ≡ properties)
IsDueOf recording properties (Resumption resumption) =
    (resumption.submission.listing.recording ≡ recording) × (resumption.submission.listing.properties ≡ properties)

-- what is kept of two runs agrees: two reports of an analysis, which may go on from old ones, two of deadlocks, two with signals,
-- and two of links
abbrev pub KeptAgree : Kept → Kept → Type 0
KeptAgree (Analysed one) (Analysed other) = Agree one.windows other.windows
KeptAgree (Linked one) (Linked other) = AllZip LinksAgree one.links other.links
KeptAgree (Stuck one) (Stuck other) = Agree one.windows other.windows
KeptAgree (Notified one) (Notified other) = Agree one.windows other.windows
KeptAgree _ _ = Unit {0}

-- what two runs keep agrees, where what is due to them is of one recording and the same properties, whatever may be told of it
abbrev pub RunsAgree : Type 0
RunsAgree = (recording : RecordingForm) (properties : List PropertyForm) (one other : Expected) (told again : Told)
    → IsDueOf recording properties one → IsDueOf recording properties other → Means one told → Means other again → KeptAgree told.kept again.kept
