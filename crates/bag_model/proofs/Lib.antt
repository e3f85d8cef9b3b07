mod SmallInputs
