-- The values that a manifest gives for a window and those before it.
use Rattle.std.specs.Prelude.{ℕ, Bool, nat_le}
use Rattle.gp_window.specs.declared.manifest.StartValue.{StartValue}

-- whether a value is given for this window or one before it
abbrev pub is_up_to : ℕ → StartValue → Bool
is_up_to window value = nat_le value.window window
