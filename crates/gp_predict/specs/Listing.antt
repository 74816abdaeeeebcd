-- The answer of task list: the instances of each property in each window, as a function of the files.
use Rattle.std.specs.Prelude.{ℕ, ◌+◌, ◌++◌, List, [], ◌∷◌, Result, Ok, Err, length, codes, decimal, flat_map, sum_by}
use Rattle.gp_outside.specs.Folders.{File}
use Rattle.gp_window.specs.declared.file_name.FileName.TheVariants.{Properties}
use Rattle.gp_window.specs.RecordingForm.{RecordingForm}
use Rattle.gp_window.specs.WindowForm.{WindowForm}
use Rattle.gp_window.specs.Windows.{all_windows}
use Rattle.gp_property.specs.PropertyForm.{PropertyForm}
use Rattle.gp_property.specs.Reading.{properties_of}
use Rattle.gp_instance.specs.declared.instance.Instance.{Instance}
use Rattle.gp_instance.specs.declared.instance.InstancesFault.{InstancesFault}
use Rattle.gp_instance.specs.declared.instance.InstancesFault.TheVariants.{TooMany, Memory}
use Rattle.gp_instance.specs.Instances.{due_instances}
use Rattle.gp_patterns.specs.Tickets.{properties_count}
use Rattle.gp_predict.specs.declared.reply.Reply.{Reply}
use Rattle.gp_predict.specs.declared.to_list.ToList.{ToList}
use Rattle.gp_predict.specs.declared.listing.Listing.{Listing}
use Rattle.gp_predict.specs.Content.{content_at, recording_at}
use Rattle.gp_predict.specs.Lines.{instance_line, property_line, total_line, window_line}
use Rattle.gp_predict.specs.Refusal.{properties_refusal}
use Rattle.gp_predict.specs.Telling.{of_reply}
use Rattle.gp_predict.specs.Told.{Told}
use Rattle.gp_base.specs.Results.{and_then, or_refused}

-- the properties in the folder
abbrev pub properties_at : List File → List ℕ → Result (List PropertyForm) Reply
properties_at files folder =
    and_then (content_at files folder Properties) (λ bytes. or_refused properties_refusal (properties_of bytes))

-- these instances, numbered from this number on
abbrev pub instance_lines : ℕ → List Instance → List (List ℕ)
instance_lines number [] = []
instance_lines number (instance ∷ instances) = instance_line number instance ∷ instance_lines (number + 1) instances

-- what is told of a property that has these instances, or too many; the definition wants no memory
abbrev pub property_lines : List ℕ → Result (List Instance) InstancesFault → List (List ℕ)
property_lines name (Ok found) = property_line name (decimal (length found)) ∷ instance_lines 0 found
property_lines name (Err TooMany) = property_line name (codes "toomany") ∷ []
property_lines name (Err Memory) = []

-- what is told of these properties in a window, the first of which has this number
abbrev pub properties_lines : WindowForm → ℕ → List PropertyForm → List (List ℕ)
properties_lines window number [] = []
properties_lines window number (property ∷ properties) =
    property_lines property.name (due_instances window property number) ++ properties_lines window (number + 1) properties

-- what is told of a window
abbrev pub window_lines : List PropertyForm → WindowForm → List (List ℕ)
window_lines properties window = window_line window.number ∷ properties_lines window 0 properties

-- what is told of all windows, in order
abbrev pub all_lines : RecordingForm → List PropertyForm → List (List ℕ)
all_lines recording properties = flat_map (window_lines properties) (all_windows recording)

-- how many instances are told of a window
abbrev pub window_count : List PropertyForm → WindowForm → ℕ
window_count properties window = properties_count window 0 properties

-- how many instances are told of all windows
abbrev pub total_count : RecordingForm → List PropertyForm → ℕ
total_count recording properties = sum_by (window_count properties) (all_windows recording)

-- what is told of all windows, and at the end how many instances that are
abbrev pub list_answer : RecordingForm → List PropertyForm → Reply
list_answer recording properties =
    record { status = 0; lines = all_lines recording properties ++ total_line (total_count recording properties) ∷ [] }

-- the recording and the properties in a folder
abbrev pub listing_at : List File → List ℕ → Result Listing Reply
listing_at files folder =
    and_then (recording_at files folder) (λ recording.
    and_then (properties_at files folder) (λ properties.
    Ok (record { recording = recording; properties = properties })))

-- the answer that a listing is
abbrev pub answer_of_listing : Listing → Reply
answer_of_listing listing = list_answer listing.recording listing.properties

-- the answer of task list on the files of a folder
abbrev pub list_at : List File → List ℕ → Result Reply Reply
list_at files folder = and_then (listing_at files folder) (λ listing. Ok (answer_of_listing listing))

-- what the result of task list tells: the answer that its listing is
abbrev pub of_to_list : ToList → Told
of_to_list whole = of_reply (answer_of_listing whole.listing)
