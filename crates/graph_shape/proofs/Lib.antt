mod SmallTexts
