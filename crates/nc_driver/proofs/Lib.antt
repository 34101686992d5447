mod FitLaws
mod KeptLaws
mod SoundLaws
