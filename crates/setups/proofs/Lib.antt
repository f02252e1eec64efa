mod OneRegion
