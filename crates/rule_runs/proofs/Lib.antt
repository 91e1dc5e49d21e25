mod Chosen
mod RoundTurns
mod SoloSteps
mod Stretches
