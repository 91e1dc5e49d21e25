mod NeverFailing
